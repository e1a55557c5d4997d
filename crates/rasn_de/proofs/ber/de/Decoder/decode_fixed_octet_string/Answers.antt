use Rattle.std.proofs.Common.{◌≡◌, ◌≤◌, length, inl, inr, refl, sym, ◌∙◌, subst}
use Rattle.std.specs.Cow.{cow_slice_items}
use Rattle.rasn_types.specs.declared.types.constraints.Bounded.TheVariants.{Single}
use Rattle.rasn_types.specs.Shapes.{Admits}
use Rattle.rasn_de.specs.declared.ber.de.parser.ParseError.TheVariants.{SizeConstraintNotSatisfied}
use Rattle.rasn_de.specs.CharacterString.{IsOutOfSize}
use Rattle.rasn_de.proofs.Leaves.Returns.{residual}
use Rattle.rasn_de.proofs.Strings.Checks.{by_length}
use Rattle.rasn_de.proofs.Strings.CharacterString.{string_refused, string_ungathered, string_given}
use Rattle.rasn_de.proofs.ber.de.Decoder.decode_fixed_octet_string.Goals as goal

pub returns-in_err-octets : goal.returns-in_err-octets
returns-in_err-octets g c =
    rw (residual _ c.from_residual.ensures.1) (string_ungathered (by_length g.row.N c.args.constraints.now) (λ s. s) c.args.tag c.args.self.now _ c.octets.ensures.octets _ c.in_err-octets.ensures.exact)

pub returns-in_default : goal.returns-in_default
returns-in_default g c =
    string_refused (by_length g.row.N c.args.constraints.now) (λ s. s) c.args.tag c.args.self.now _ c.octets.ensures.octets c.in_ok-octets.octets c.in_ok-octets.ensures.exact
    (SizeConstraintNotSatisfied (length (cow_slice_items c.in_ok-octets.octets)) (Single g.row.N)) _
    (inl ((λ e. c.in_default.ensures.1 (c.as_slice.ensures.len ∙ e)), refl)) (rw (← c.len.ensures) c.error.ensures)

pub returns-in-Ok-check_size : goal.returns-in-Ok-check_size
returns-in-Ok-check_size g c =
    let n : length (cow_slice_items c.in_ok-octets.octets) ≡ g.row.N = sym c.as_slice.ensures.len ∙ c.in-Ok.ensures.1.long in
    string_given (by_length g.row.N c.args.constraints.now) (λ s. s) c.args.tag c.args.self.now _ c.octets.ensures.octets c.in_ok-octets.octets c.in_ok-octets.ensures.exact c.new.result
    (c.new.ensures ∙ (c.in-Ok.ensures.1.same ∙ c.as_slice.ensures.value), n, subst (λ z. Admits ◌≤◌ c.args.constraints.now.size z) (sym n) c.in-Ok-check_size.ensures)

pub returns : goal.returns
returns g c =
    let n : length (cow_slice_items c.in_ok-octets.octets) ≡ g.row.N = sym c.as_slice.ensures.len ∙ c.in-Ok.ensures.1.long in
    string_refused (by_length g.row.N c.args.constraints.now) (λ s. s) c.args.tag c.args.self.now _ c.octets.ensures.octets c.in_ok-octets.octets c.in_ok-octets.ensures.exact
    c.in-Err.fault _ (inr (n, subst (λ z. IsOutOfSize c.args.constraints.now.size z c.in-Err.fault) (sym n) c.in-Err.ensures)) c.error-in-Err.ensures
