use Rattle.std.proofs.Common.{rules}
use Rattle.rasn_text.proofs.PemContents.{undecodable}
use Rattle.rasn_text.proofs.pem.decoded.Goals as goal

pub returns-in-Err-DecodeError : goal.returns-in-Err-DecodeError
returns-in-Err-DecodeError c =
    undecodable _ c.in-Err-DecodeError.field-0 _ c.in-Err-DecodeError.field-0-is c.in-Err-DecodeError.ensures.err (c.in-Err-DecodeError.ensures.strict (search rules))
