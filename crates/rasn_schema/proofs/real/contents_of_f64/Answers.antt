use Rattle.std.proofs.Common.{[], ◌∷◌, sym, ◌∙◌, to_bits}
use Rattle.std.specs.Bool.{passes}
use Rattle.std.specs.Float.{binary64}
use Rattle.rasn_schema.proofs.Doubles.{of_octets, nan_octets, number_small}
use Rattle.rasn_schema.proofs.real.contents_of_f64.Goals as goal

pub contents_of_bits-requires : goal.contents_of_bits-requires
contents_of_bits-requires c = (number_small c.args.number (passes _ c.well_formed.1.0.1) (sym c.is_nan.ensures.value ∙ c.if-is_nan.false)).1

pub returns-then-is_nan : goal.returns-then-is_nan
returns-then-is_nan c =
    of_octets c.from_slice.result (λ v. v.items) (to_bits binary64 c.args.number) (66 ∷ []) (nan_octets c.args.number (sym c.is_nan.ensures.value ∙ c.if-is_nan.true)) c.from_slice.ensures.items
