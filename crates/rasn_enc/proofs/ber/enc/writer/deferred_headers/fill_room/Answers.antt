use Rattle.std.proofs.Common.{rules, ◌≡◌, ◌∙◌, ◌+◌, ◌++◌, ap, arith, length, drop, get_or}
use Rattle.rasn_enc.specs.Buffer.DeferredHeaders.{header_octets}
use Rattle.rasn_enc.proofs.Buffer.Headers.{header_two, room_filled, take-drop_length, spelled_rest, spelled_octet, spelled_off}
use Rattle.rasn_enc.proofs.ber.enc.writer.deferred_headers.fill_room.Goals as goal

pub returns-clause-rest : goal.returns-clause-rest
returns-clause-rest c =
    let end : c.len-end.result ≡ length c.args.octets.now.items = search rules in
    let e : c.write_header.new.octets.items ≡ c.args.octets.now.items ++ header_octets c.args.head = c.write_header.ensures ∙ ap (λ l. l ++ header_octets c.args.head) c.reserve.ensures.items in
    c.from_slice-rest.ensures ∙ (take-drop_length (c.len-end.result + 2) c.deref.result.now ∙ (ap (drop (c.len-end.result + 2)) c.deref.ensures.value ∙ spelled_rest _ _ _ _ end e))

pub returns-clause-ok : goal.returns-clause-ok
returns-clause-ok c =
    let end : c.len-end.result ≡ length c.args.octets.now.items = search rules in
    let e : c.write_header.new.octets.items ≡ c.args.octets.now.items ++ header_octets c.args.head = c.write_header.ensures ∙ ap (λ l. l ++ header_octets c.args.head) c.reserve.ensures.items in
    let off : c.truncate.new.self.items ≡ c.args.octets.now.items = c.truncate.ensures.items ∙ spelled_off _ _ _ _ end e in
    let first : c.index.result.now ≡ get_or (header_octets c.args.head) 0 0 = c.index.ensures ∙ spelled_octet _ _ _ _ end e 0 _ _ (omega arith) (omega (arith, header_two c.args.head)) in
    let second : c.index-2.result.now ≡ get_or (header_octets c.args.head) 1 0 = c.index-2.ensures ∙ spelled_octet _ _ _ _ end e 1 _ _ (omega arith) (omega (arith, header_two c.args.head)) in
    rw off (room_filled _ (header_octets c.args.head) c.args.at _ _ (omega (arith, c.requires, c.args.octets.now.ok)) (header_two c.args.head) first second)
