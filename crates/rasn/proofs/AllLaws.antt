-- The laws that the functions of src/laws.rt and src/time_laws.rt promise, except those that need an answer.
use Rattle.rasn.proofs.StrictDer.AllCarried.{lawful_tested}
use Rattle.rasn.proofs.LawsHold.Written.{included, one_choice, one_leaf, one_open, one_open_choice, one_option, one_prefix, one_reading, one_sequence, one_sequence_of, one_set, one_set_of, one_sorted_set, one_unknown, read_again, turns, written_once}
use Rattle.rasn.proofs.StrictDer.Carried.{strict_der}
use Rattle.rasn.proofs.Worked.Shapes.{carried, shapes}
use Rattle.rasn.proofs.Worked.Clauses.{worked as worked_clauses}
use Rattle.rasn.proofs.Worked.Depths.{worked as worked_depths}
use Rattle.rasn.proofs.Worked.Headers.{worked as worked_headers}
use Rattle.rasn.proofs.Worked.Octets.{worked as worked_octets}
use Rattle.rasn.proofs.Worked.Any.{worked as worked_opens}
use Rattle.rasn.proofs.Worked.OpenChoice.{worked as worked_open_choice}
use Rattle.rasn.proofs.Worked.Refusals.{worked as worked_refusals}
use Rattle.rasn.proofs.Worked.Sets.{worked as worked_sets}
use Rattle.rasn.proofs.Worked.SortedSets.{worked as worked_sorted_sets}
use Rattle.rasn.proofs.Worked.Strict.{worked as worked_strict}
use Rattle.rasn.proofs.Worked.Unknown.{worked as worked_unknown}
use Rattle.rasn.proofs.Worked.Values.{worked as worked_values}
use Rattle.rasn.proofs.LawsHold.Grammar.{distinct, included as included_texts, one_meaning, read_back}
use Rattle.rasn.proofs.Time.Seconds.{seconds}
use Rattle.rasn.proofs.Time.Steps.{steps}

pub ruleset laws = (lawful_tested, included, one_choice, one_leaf, one_open, one_open_choice, one_option, one_prefix, one_reading, one_sequence, one_sequence_of, one_set, one_set_of, one_sorted_set, one_unknown, read_again, strict_der, turns, written_once, carried, shapes, worked_clauses, worked_depths, worked_headers, worked_octets, worked_open_choice, worked_opens, worked_refusals, worked_sets, worked_sorted_sets, worked_strict, worked_unknown, worked_values)

pub ruleset time_laws = (distinct, included_texts, one_meaning, read_back, seconds, steps)
