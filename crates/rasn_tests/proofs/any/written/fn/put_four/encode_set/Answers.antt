use Rattle.rasn_enc.proofs.OwnTypes.Sequence.{call_keeps, keeps_then}
use Rattle.rasn_tests.proofs.any.written.fn.put_four.encode_set.Goals as goal

pub returns-in_err-encode : goal.returns-in_err-encode
returns-in_err-encode c = call_keeps _ _ _ c.encode.ensures.ok c.encode.ensures.err

pub returns-in_err-encode-2 : goal.returns-in_err-encode-2
returns-in_err-encode-2 c = keeps_then (call_keeps _ _ _ c.encode.ensures.ok c.encode.ensures.err) (call_keeps _ _ _ c.encode-2.ensures.ok c.encode-2.ensures.err)

pub returns-in_err-encode-3 : goal.returns-in_err-encode-3
returns-in_err-encode-3 c = keeps_then (call_keeps _ _ _ c.encode.ensures.ok c.encode.ensures.err) (keeps_then (call_keeps _ _ _ c.encode-2.ensures.ok c.encode-2.ensures.err) (call_keeps _ _ _ c.encode-3.ensures.ok c.encode-3.ensures.err))

pub returns : goal.returns
returns c = keeps_then (call_keeps _ _ _ c.encode.ensures.ok c.encode.ensures.err) (keeps_then (call_keeps _ _ _ c.encode-2.ensures.ok c.encode-2.ensures.err)
    (keeps_then (call_keeps _ _ _ c.encode-3.ensures.ok c.encode-3.ensures.err) (call_keeps _ _ _ c.encode-4.ensures.ok c.encode-4.ensures.err)))
