-- The kinds of trees: those of different kinds aren't the same.
use Rattle.std.specs.Prelude.{ℕ}
use Rattle.rasn_types.specs.Shapes.{Tree, number, bits, numbers, instant, on_day, done, joined, set_elements, chosen, absent}

abbrev pub kind : Tree → ℕ
kind (number z) = 0
kind (bits b) = 1
kind (numbers k) = 2
kind (instant m) = 3
kind (on_day c) = 4
kind done = 5
kind (joined t ts) = 5
kind (set_elements ts) = 6
kind (chosen k t) = 7
kind absent = 8
