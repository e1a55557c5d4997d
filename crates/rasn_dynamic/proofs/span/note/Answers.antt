use Rattle.std.proofs.Common.{◌≡◌, ◌-◌, ◌∷◌, ◌++◌, [], ◌∙◌, Vec, inl, inr, refl, sym, ap, subst, length}
use Rattle.std.specs.Global.{Global}
use Rattle.rasn_dynamic.specs.Listed.{capped}
use Rattle.rasn_dynamic.specs.declared.span.Span.{Span}
use Rattle.rasn_dynamic.proofs.Listed.{same_list}
use Rattle.rasn_dynamic.proofs.span.note.Goals as goal

pub returns-then-not-is_wanted : goal.returns-then-not-is_wanted
returns-then-not-is_wanted c = (refl, refl, λ m q. (m, q, inr (sym c.is_wanted.ensures ∙ c.if-not-is_wanted.true, refl, refl)))

pub returns : goal.returns
returns c = (
  c.make_room.ensures.0,
  c.make_room.ensures.1,
  λ m q.
      let e : Span = record { id = c.args.id; index = c.args.index; depth = 18446744073709551615 - c.args.levels; left = c.saturating_add-left.result; octets = c.args.octets } in
      let room = c.make_room.ensures.2 c.in-Some.list c.in-Some.is in (
        room.0,
        room.1,
        inl (
          sym c.is_wanted.ensures ∙ c.if-not-is_wanted.false,
          (
            c.len-place.ensures ∙ (c.in-Some.list.ok.0 ∙ ap length room.2),
            e,
            subst (λ (v : Vec Span Global). v.items ≡ c.in-Some.list.items ++ e ∷ []) (same_list _ m q) c.push_reserved.ensures.items ∙ ap (λ z. z ++ e ∷ []) room.2,
            refl,
            refl,
            refl,
            subst (λ a. c.saturating_add-left.result ≡ capped a (length c.args.octets.now)) c.make_room.ensures.0 c.saturating_add-left.ensures,
            refl,
          ),
        ),
      ),
)
