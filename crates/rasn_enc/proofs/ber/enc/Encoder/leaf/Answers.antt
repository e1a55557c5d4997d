use Rattle.std.proofs.Common.{◌∷◌, []}
use Rattle.rasn_enc.specs.Buffer.Lists.{tags_of}
use Rattle.rasn_enc.proofs.Buffer.OpenValues.{put-there, put-sound, put-chain}
use Rattle.rasn_enc.specs.Buffer.OpenValues.{opens}
use Rattle.rasn_enc.proofs.ber.enc.Encoder.leaf.Goals as goal

pub invariant_of-self : goal.invariant_of-self
invariant_of-self g c = (
  put-sound c.self.inside.rule c.self.inside.gathered.items c.in-Ok.ensures.ok.puts.octets c.self.inside.headers.items c.self.inside.list.start c.self.inside.list.first c.self.inside.list.measured (opens c.self.inside.around.items c.self.inside.innermost) c.self.invariant.0 c.self.invariant.1 c.gather.new.gathered.items c.in-Ok.ensures.ok.puts.is c.in-Ok.total c.in-Ok.ensures.ok.total,
  put-chain c.self.inside.rule c.self.inside.gathered.items c.in-Ok.ensures.ok.puts.octets c.self.inside.headers.items c.self.inside.list.start c.self.inside.list.first c.self.inside.list.measured (opens c.self.inside.around.items c.self.inside.innermost) c.self.invariant.0 c.self.invariant.1 c.gather.new.gathered.items c.in-Ok.ensures.ok.puts.is,
  c.self.invariant.2,
)

pub returns-in-Ok-clause-ok : goal.returns-in-Ok-clause-ok
returns-in-Ok-clause-ok g c = (
  c.in-Ok.ensures.ok.puts.contents,
  c.in-Ok.ensures.ok.puts.written,
  record {
    octets = c.in-Ok.ensures.ok.puts.octets;
    written = c.in-Ok.ensures.ok.puts.encoded;
    appended = rw (← c.self.view_is) (
        put-there c.self.inside.rule c.self.inside.gathered.items c.in-Ok.ensures.ok.puts.octets c.self.inside.headers.items c.self.inside.list.start c.self.inside.list.first c.self.inside.list.measured (opens c.self.inside.around.items c.self.inside.innermost) c.self.invariant.0 c.self.invariant.1 c.gather.new.gathered.items c.in-Ok.ensures.ok.puts.is (c.args.tag ∷ []) (tags_of c.self.inside.list.tags) (tags_of c.gather.new.tags) c.in-Ok.ensures.noted);
  },
)
