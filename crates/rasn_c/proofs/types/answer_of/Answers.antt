use Rattle.std.proofs.Common.{refl}
use Rattle.rasn_c.proofs.types.answer_of.Goals as goal

pub returns-in-0 : goal.returns-in-0
returns-in-0 g c = rw c.in-0.is (_, refl, c.of_type.ensures)

pub returns-in-1 : goal.returns-in-1
returns-in-1 g c = rw c.in-1.is (_, refl, c.of_type-in-1.ensures)

pub returns-in-2 : goal.returns-in-2
returns-in-2 g c = rw c.in-2.is (_, refl, c.of_type-in-2.ensures)

pub returns-in-3 : goal.returns-in-3
returns-in-3 g c = rw c.in-3.is (_, refl, c.of_type-in-3.ensures)

pub returns-in-4 : goal.returns-in-4
returns-in-4 g c = rw c.in-4.is (_, refl, c.of_type-in-4.ensures)

pub returns-in-5 : goal.returns-in-5
returns-in-5 g c = rw c.in-5.is (_, refl, c.of_type-in-5.ensures)

pub returns-in-6 : goal.returns-in-6
returns-in-6 g c = rw c.in-6.is (_, refl, c.of_type-in-6.ensures)

pub returns-in-7 : goal.returns-in-7
returns-in-7 g c = rw c.in-7.is (_, refl, c.of_type-in-7.ensures)

pub returns-in-8 : goal.returns-in-8
returns-in-8 g c = rw c.in-8.is (_, refl, c.of_type-in-8.ensures)

pub returns-in-9 : goal.returns-in-9
returns-in-9 g c = rw c.in-9.is (_, refl, c.of_type-in-9.ensures)

pub returns-in-10 : goal.returns-in-10
returns-in-10 g c = rw c.in-10.is (_, refl, c.of_type-in-10.ensures)

pub returns-in-11 : goal.returns-in-11
returns-in-11 g c = rw c.in-11.is (_, refl, c.of_type-in-11.ensures)

pub returns-in-12 : goal.returns-in-12
returns-in-12 g c = rw c.in-12.is (_, refl, c.of_type-in-12.ensures)

pub returns-in-13 : goal.returns-in-13
returns-in-13 g c = rw c.in-13.is (_, refl, c.of_type-in-13.ensures)

pub returns-in-14 : goal.returns-in-14
returns-in-14 g c = rw c.in-14.is (_, refl, c.of_type-in-14.ensures)

pub returns-in-15 : goal.returns-in-15
returns-in-15 g c = rw c.in-15.is (_, refl, c.of_type-in-15.ensures)

pub returns-in-16 : goal.returns-in-16
returns-in-16 g c = rw c.in-16.is (_, refl, c.of_type-in-16.ensures)

pub returns-in-17 : goal.returns-in-17
returns-in-17 g c = rw c.in-17.is (_, refl, c.of_type-in-17.ensures)
