use Rattle.rasn_lint.proofs.der.contents.is_utc_time.Goals as goal

pub returns-in-None : goal.returns-in-None
returns-in-None c = λ h. c.in-None.ensures h.0.moment (h.0.offset, h.1)
