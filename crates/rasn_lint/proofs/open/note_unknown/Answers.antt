use Rattle.std.proofs.Common.{◌∷◌, [], sym, subst, append-nil, arith}
use Rattle.rasn_types.specs.Truth.{IsWhether}
use Rattle.rasn_lint.specs.WellFormed.{AreEncodings}
use Rattle.rasn_lint.specs.WellFormed.AreWellFormed.{none, one_more}
use Rattle.rasn_lint.proofs.Listed.{more_of_each}
use Rattle.rasn_lint.proofs.Noted.{unknown_whole}
use Rattle.rasn_lint.proofs.Wholes.{value_formed}
use Rattle.rasn_lint.proofs.open.note_unknown.Goals as goal

pub returns-then-branch-clause-complete : goal.returns-then-branch-clause-complete
returns-then-branch-clause-complete c w ds q v h n =
    let octets = c.args.way.part.now.octets.now in
    let (parts, is, formed) = subst (λ b. IsWhether b (AreEncodings octets)) c.if-branch.true c.in_ok-are_encodings.ensures in
    absurd (n (value_formed parts formed octets is v h))

pub note_whole-requires-clause-here : goal.note_whole-requires-clause-here
note_whole-requires-clause-here c = ([], [], sym (append-nil c.args.way.part.now.octets.now), omega arith)

pub note_whole-requires-clause-formed : goal.note_whole-requires-clause-formed
note_whole-requires-clause-formed c =
    let o = c.args.way.part.now.octets.now in
    let not = subst (λ b. IsWhether b (AreEncodings o)) c.if-branch.false c.in_ok-are_encodings.ensures in
    λ w. not (o ∷ [], sym (append-nil o), one_more w none)

pub returns-in_ok-note_whole-clause-listed : goal.returns-in_ok-note_whole-clause-listed
returns-in_ok-note_whole-clause-listed c =
    let not = subst (λ b. IsWhether b (AreEncodings c.args.way.part.now.octets.now)) c.if-branch.false c.in_ok-are_encodings.ensures in
    unknown_whole c.args.way.len c.args.way.part.now c.args.way.path.now c.args.list.now.items c.note_each.new.list.items c.note_whole.new.list.items not c.in_ok-note_each.ensures.grows c.in_ok-note_whole.ensures

pub returns-in_ok-note_whole-clause-complete : goal.returns-in_ok-note_whole-clause-complete
returns-in_ok-note_whole-clause-complete c w =
    let g = c.in_ok-note_each.ensures.grows in
    let m = c.in_ok-note_whole.ensures in
    more_of_each c.args.way.part.now.octets.now c.args.list.now.items c.note_each.new.list.items c.note_whole.new.list.items g.0 (m.0 ∷ []) (c.in_ok-note_each.ensures.complete w g.0 g.1) g.1 m.1
