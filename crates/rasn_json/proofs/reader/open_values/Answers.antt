use Rattle.std.proofs.Common.{◌≡◌, ◌++◌, ◌∷◌, [], take, sym, ap, ◌∙◌, subst, arith}
use Rattle.std.proofs.lemmas.List.{take_more, take_all}
use Rattle.rasn_schema.specs.Fitting.{AreOctets}
use Rattle.rasn_dynamic.proofs.FitsRead.{each_more}
use Rattle.rasn_json.specs.Reading.{OpenRead}
use Rattle.rasn_json.proofs.ReadParts.{each_read_more, items_read, EachRead}
use Rattle.rasn_json.proofs.reader.open_values.Goals as goal

pub loop-index-preserved : goal.loop-index-preserved
loop-index-preserved c =
    let i = c.loop-index.index in
    let l = c.args.items.now in
    let x = c.index-items-index.result in (
      each_more AreOctets c.loop-index.values.items _ c.in-Ok.value c.in_ok-append-in-Ok.ensures c.loop-index.invariant.0 c.in-Ok.ensures.fits,
      each_read_more OpenRead (take i l) _ x c.loop-index.values.items _ c.in-Ok.value c.loop-index.invariant.1 c.in-Ok.ensures.reads (take_more l i x (omega arith) ∙ ap (λ y. take i l ++ y ∷ []) (sym c.index-items-index.is)) c.in_ok-append-in-Ok.ensures,
    )

pub returns-clause-reads : goal.returns-clause-reads
returns-clause-reads c =
    let i = c.loop-index.index in
    let l = c.args.items.now in
    items_read OpenRead l c.loop-index.values.items (subst (λ x. EachRead OpenRead x c.loop-index.values.items) (take_all i l (omega arith)) c.loop-index.invariant.1)
