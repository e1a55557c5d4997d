use Rattle.std.proofs.Common.{◌≡◌, length, inl, inr, arith}
use Rattle.std.specs.Cow.{cow_slice_items}
use Rattle.rasn_de.proofs.Leaves.Returns.{residual}
use Rattle.rasn_dynamic.proofs.FixedOctets.{fixed_got, fixed_refused, fixed_unread}
use Rattle.rasn_dynamic.proofs.read_leaf.decode_fixed_octets.Goals as goal

pub returns-in_err-octets-clause-reads : goal.returns-in_err-octets-clause-reads
returns-in_err-octets-clause-reads c = rw (residual _ c.from_residual.ensures.1) (fixed_unread c.args.tag c.args.len c.args.constraints.now c.args.decoder.now _ c.in_err-octets.field-0.0 c.in_err-octets.ensures.reads)

pub returns-then-len-clause-reads : goal.returns-then-len-clause-reads
returns-then-len-clause-reads c =
    fixed_refused c.args.tag c.args.len c.args.constraints.now c.args.decoder.now _ c.in_ok-octets.octets c.in_ok-octets.ensures.reads (inl (rw (← c.len.ensures) c.if-len.true)) _

pub returns-then-admits_size-clause-reads : goal.returns-then-admits_size-clause-reads
returns-then-admits_size-clause-reads c =
    let l : length (cow_slice_items c.in_ok-octets.octets) ≡ c.args.len = omega (arith, c.len.ensures, c.if-len.false) in
    fixed_got c.args.tag c.args.len c.args.constraints.now c.args.decoder.now _ c.in_ok-octets.octets c.in_ok-octets.ensures.reads l c.if-admits_size.ensures

pub returns-then-admits_size-clause-fits : goal.returns-then-admits_size-clause-fits
returns-then-admits_size-clause-fits c = omega (arith, c.len.ensures, c.if-len.false)

pub returns-clause-reads : goal.returns-clause-reads
returns-clause-reads c =
    fixed_refused c.args.tag c.args.len c.args.constraints.now c.args.decoder.now _ c.in_ok-octets.octets c.in_ok-octets.ensures.reads (inr c.if-admits_size.ensures) _

pub returns-in_err-octets-clause-fails : goal.returns-in_err-octets-clause-fails
returns-in_err-octets-clause-fails c = rw (residual _ c.from_residual.ensures.1) (inl c.in_err-octets.ensures.exact)

pub returns-then-len-clause-fails : goal.returns-then-len-clause-fails
returns-then-len-clause-fails c = inr (c.in_ok-octets.octets, c.in_ok-octets.ensures.exact, inl (rw (← c.len.ensures) c.if-len.true, rw (← c.len-then-len.ensures) c.wrong_size.ensures))

pub returns-clause-fails : goal.returns-clause-fails
returns-clause-fails c = inr (c.in_ok-octets.octets, c.in_ok-octets.ensures.exact, inr (omega (arith, c.len.ensures, c.if-len.false), c.if-admits_size.ensures, rw (← c.size_bounds.ensures) c.wrong_size-else-admits_size.ensures))
