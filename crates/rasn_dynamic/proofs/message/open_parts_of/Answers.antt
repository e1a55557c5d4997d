use Rattle.std.proofs.Common.{ap, ◌∙◌}
use Rattle.std.specs.Prelude.{map}
use Rattle.rasn_dynamic.specs.Listed.{wanted_of}
use Rattle.rasn_dynamic.specs.Walk.{is_open_type}
use Rattle.rasn.proofs.Normalised.{if_ok}
use Rattle.rasn_dynamic.proofs.Placed.{open_wanted}
use Rattle.rasn_dynamic.proofs.message.open_parts_of.Goals as goal

pub returns-in-Ok-clause-parts : goal.returns-in-Ok-clause-parts
returns-in-Ok-clause-parts c =
    if_ok c.wanted_parts.result
    (λ o h. (h.0, h.1, h.2 ∙ (ap (λ w. wanted_of w h.0) c.new_list_of-spans.ensures.wanted ∙ open_wanted c.args.schema.now.types.items c.in-Ok.open h.0 (c.in-Ok.ensures ∙ ap (λ l. map is_open_type l) c.types.ensures.types))))
    c.wanted_parts.ensures.parts
