use Rattle.rasn_enc.proofs.Constructed.Order.{fall_told}
use Rattle.rasn_enc.proofs.ber.enc.Encoder.neighbours_out_of_order.Goals as goal

pub returns : goal.returns
returns c = fall_told _ _ _ c.is_less_at.ensures
