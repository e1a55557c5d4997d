use Rattle.std.proofs.Common.{◌+◌, [], ◌∷◌, get_or, take}
use Rattle.std.proofs.lemmas.List.{take_more}
use Rattle.rasn_de.specs.ShortText.{HoldsShort}
use Rattle.rasn_de.proofs.Strings.Seen.{sees_both}
use Rattle.rasn_de.proofs.ber.de.parser.short_text.ShortTextSegmented.append_segment.Goals as goal

pub loop-octet-preserved : goal.loop-octet-preserved
loop-octet-preserved c =
    let xs = c.args.octets.now in
    let i = c.loop-octet.octet-index in
    sees_both (take i xs) (get_or xs i 0 ∷ []) (take (i + 1) xs) (HoldsShort c.args.self.now.octets c.args.self.now.len) (HoldsShort c.loop-octet.self.octets c.loop-octet.self.len) (HoldsShort c.push.new.self.octets c.push.new.self.len)
    c.loop-octet.invariant c.push.ensures (take_more xs i 0 c.loop-octet-test.true)
