use Rattle.std.proofs.Common.{arith, ap, length, sym, subst}
use Rattle.std.specs.List.{AllByRecursion}
use Rattle.std.proofs.lemmas.List.{take-append-drop}
use Rattle.rasn_dynamic.specs.PathText.{EndsName, IsNameOctet}
use Rattle.rasn_dynamic.proofs.PathTexts.{none_there, cut_there}
use Rattle.rasn_dynamic.proofs.path_text.first_name.Goals as goal

pub returns-then-end-eq0 : goal.returns-then-end-eq0
returns-then-end-eq0 c = λ name rest. none_there c.args.text.now name rest (rw c.if-end-eq0.true at c.name_length-end.ensures.end)

pub split_at-requires : goal.split_at-requires
split_at-requires c = cut_there c.args.text.now c.name_length-end.result c.name_length-end.ensures.bound c.name_length-end.ensures.end

pub returns : goal.returns
returns c = record {
  some = λ e. let n = ap length e in let l = c.split_at.ensures.front_len in let z = c.if-end-eq0.false in omega (arith, n, l, z);
  octets = subst (AllByRecursion IsNameOctet) (sym c.split_at.ensures.front) c.name_length-end.ensures.name;
  text_is = rw (c.split_at.ensures.front, c.split_at.ensures.back) (sym (take-append-drop c.name_length-end.result c.args.text.now));
  ends = subst EndsName (sym c.split_at.ensures.back) c.name_length-end.ensures.end;
}
