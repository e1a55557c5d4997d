use Rattle.std.proofs.Common.{◌+◌, ◌*◌}
use Rattle.rasn_dynamic.proofs.unfit.+path.Given as goal

abbrev pub decreases-append_unfit_path : goal.decreases-append_unfit_path
decreases-append_unfit_path l = 2 * l.levels

abbrev pub decreases-append_path_in : goal.decreases-append_path_in
decreases-append_path_in l = 2 * l.below + 1
