use Rattle.std.proofs.Common.{◌≡◌, length, Err, refl, ap, arith, rules}
use Rattle.std.proofs.lemmas.Grind.{common_steps}
use Rattle.hm_wire.specs.declared.malformed.Malformed.{Malformed}
use Rattle.hm_wire.specs.Reading.{located, located_at, end_with, body_at}
use Rattle.hm_codec.proofs.Decoded.{headless, decoded, answered}
use Rattle.hm_codec.specs.Placed.{placed}
use Rattle.hm_codec.proofs.decode.decode.Goals as goal

pub returns-in-Err : goal.returns-in-Err
returns-in-Err c =
    let is : c.malformed.result ≡ located_at (length c.args.bytes.now) c.in-Err.fault = c.malformed.ensures in
    let a = headless c.reading_is_exact.ensures c.args.bytes.now c.in-Err.fault (Err c.malformed.result) (λ i. omega (arith, c.type_inv.bytes i)) c.in-Err.ensures.given (ap (λ (m : Malformed). Err m) is) in
    record { ok = tt; lawful = tt; exact = a.exact; err = a.err; place = a.place; same = refl }

pub returns-in-1 : goal.returns-in-1
unfolding body_at
returns-in-1 c =
    let is : placed c.read_packet.result c.read_packet.new.packet ≡ located c.in-Ok.head.len (end_with c.in-Ok.head.src c.in-Ok.head.dst (body_at c.in-Ok.head.code c.in-Ok.rest.now)) = search rules in
    let a = decoded c.reading_is_exact.ensures c.args.bytes.now c.in-Ok.head c.in-Ok.rest.now (placed c.read_packet.result c.read_packet.new.packet) (λ i. omega (arith, c.type_inv.bytes i)) c.in-Ok.ensures.given c.in-Ok.ensures.len is in
    let all = answered c.read_packet.result c.args.packet.now c.read_packet.new.packet c.args.bytes.now a c.read_packet.ensures.err in
    record { ok = all.ok; lawful = all.lawful; exact = all.exact; err = all.err; place = all.place; same = all.same }

pub returns-in-2 : goal.returns-in-2
unfolding body_at
returns-in-2 c =
    let is : placed c.write_packet.result c.write_packet.new.packet ≡ located c.in-Ok.head.len (end_with c.in-Ok.head.src c.in-Ok.head.dst (body_at c.in-Ok.head.code c.in-Ok.rest.now)) = search rules in
    let a = decoded c.reading_is_exact.ensures c.args.bytes.now c.in-Ok.head c.in-Ok.rest.now (placed c.write_packet.result c.write_packet.new.packet) (λ i. omega (arith, c.type_inv.bytes i)) c.in-Ok.ensures.given c.in-Ok.ensures.len is in
    let all = answered c.write_packet.result c.args.packet.now c.write_packet.new.packet c.args.bytes.now a c.write_packet.ensures.err in
    record { ok = all.ok; lawful = all.lawful; exact = all.exact; err = all.err; place = all.place; same = all.same }

pub returns-in-3 : goal.returns-in-3
unfolding body_at
returns-in-3 c =
    let is : placed c.put_packet.result c.put_packet.new.packet ≡ located c.in-Ok.head.len (end_with c.in-Ok.head.src c.in-Ok.head.dst (body_at c.in-Ok.head.code c.in-Ok.rest.now)) = search rules in
    let a = decoded c.reading_is_exact.ensures c.args.bytes.now c.in-Ok.head c.in-Ok.rest.now (placed c.put_packet.result c.put_packet.new.packet) (λ i. omega (arith, c.type_inv.bytes i)) c.in-Ok.ensures.given c.in-Ok.ensures.len is in
    let all = answered c.put_packet.result c.args.packet.now c.put_packet.new.packet c.args.bytes.now a c.put_packet.ensures.err in
    record { ok = all.ok; lawful = all.lawful; exact = all.exact; err = all.err; place = all.place; same = all.same }

pub returns-in-4 : goal.returns-in-4
unfolding body_at
returns-in-4 c =
    let is : placed c.fast_read_packet.result c.fast_read_packet.new.packet ≡ located c.in-Ok.head.len (end_with c.in-Ok.head.src c.in-Ok.head.dst (body_at c.in-Ok.head.code c.in-Ok.rest.now)) = search rules in
    let a = decoded c.reading_is_exact.ensures c.args.bytes.now c.in-Ok.head c.in-Ok.rest.now (placed c.fast_read_packet.result c.fast_read_packet.new.packet) (λ i. omega (arith, c.type_inv.bytes i)) c.in-Ok.ensures.given c.in-Ok.ensures.len is in
    let all = answered c.fast_read_packet.result c.args.packet.now c.fast_read_packet.new.packet c.args.bytes.now a c.fast_read_packet.ensures.err in
    record { ok = all.ok; lawful = all.lawful; exact = all.exact; err = all.err; place = all.place; same = all.same }

pub returns-in-5 : goal.returns-in-5
unfolding body_at
returns-in-5 c =
    let is : placed c.normal_read_packet.result c.normal_read_packet.new.packet ≡ located c.in-Ok.head.len (end_with c.in-Ok.head.src c.in-Ok.head.dst (body_at c.in-Ok.head.code c.in-Ok.rest.now)) = search rules in
    let a = decoded c.reading_is_exact.ensures c.args.bytes.now c.in-Ok.head c.in-Ok.rest.now (placed c.normal_read_packet.result c.normal_read_packet.new.packet) (λ i. omega (arith, c.type_inv.bytes i)) c.in-Ok.ensures.given c.in-Ok.ensures.len is in
    let all = answered c.normal_read_packet.result c.args.packet.now c.normal_read_packet.new.packet c.args.bytes.now a c.normal_read_packet.ensures.err in
    record { ok = all.ok; lawful = all.lawful; exact = all.exact; err = all.err; place = all.place; same = all.same }

pub returns-in-6 : goal.returns-in-6
unfolding body_at
returns-in-6 c =
    let is : placed c.done_packet.result c.done_packet.new.packet ≡ located c.in-Ok.head.len (end_with c.in-Ok.head.src c.in-Ok.head.dst (body_at c.in-Ok.head.code c.in-Ok.rest.now)) = search rules in
    let a = decoded c.reading_is_exact.ensures c.args.bytes.now c.in-Ok.head c.in-Ok.rest.now (placed c.done_packet.result c.done_packet.new.packet) (λ i. omega (arith, c.type_inv.bytes i)) c.in-Ok.ensures.given c.in-Ok.ensures.len is in
    let all = answered c.done_packet.result c.args.packet.now c.done_packet.new.packet c.args.bytes.now a c.done_packet.ensures.err in
    record { ok = all.ok; lawful = all.lawful; exact = all.exact; err = all.err; place = all.place; same = all.same }

pub returns-in-7 : goal.returns-in-7
unfolding body_at
returns-in-7 c =
    let is : placed c.reply_packet.result c.reply_packet.new.packet ≡ located c.in-Ok.head.len (end_with c.in-Ok.head.src c.in-Ok.head.dst (body_at c.in-Ok.head.code c.in-Ok.rest.now)) = search rules in
    let a = decoded c.reading_is_exact.ensures c.args.bytes.now c.in-Ok.head c.in-Ok.rest.now (placed c.reply_packet.result c.reply_packet.new.packet) (λ i. omega (arith, c.type_inv.bytes i)) c.in-Ok.ensures.given c.in-Ok.ensures.len is in
    let all = answered c.reply_packet.result c.args.packet.now c.reply_packet.new.packet c.args.bytes.now a c.reply_packet.ensures.err in
    record { ok = all.ok; lawful = all.lawful; exact = all.exact; err = all.err; place = all.place; same = all.same }

pub returns-in-8 : goal.returns-in-8
unfolding body_at
returns-in-8 c =
    let is : placed c.feed_packet.result c.feed_packet.new.packet ≡ located c.in-Ok.head.len (end_with c.in-Ok.head.src c.in-Ok.head.dst (body_at c.in-Ok.head.code c.in-Ok.rest.now)) = search rules in
    let a = decoded c.reading_is_exact.ensures c.args.bytes.now c.in-Ok.head c.in-Ok.rest.now (placed c.feed_packet.result c.feed_packet.new.packet) (λ i. omega (arith, c.type_inv.bytes i)) c.in-Ok.ensures.given c.in-Ok.ensures.len is in
    let all = answered c.feed_packet.result c.args.packet.now c.feed_packet.new.packet c.args.bytes.now a c.feed_packet.ensures.err in
    record { ok = all.ok; lawful = all.lawful; exact = all.exact; err = all.err; place = all.place; same = all.same }

pub returns-in-9 : goal.returns-in-9
unfolding body_at
returns-in-9 c =
    let is : placed c.feed_ack_packet.result c.feed_ack_packet.new.packet ≡ located c.in-Ok.head.len (end_with c.in-Ok.head.src c.in-Ok.head.dst (body_at c.in-Ok.head.code c.in-Ok.rest.now)) = search rules in
    let a = decoded c.reading_is_exact.ensures c.args.bytes.now c.in-Ok.head c.in-Ok.rest.now (placed c.feed_ack_packet.result c.feed_ack_packet.new.packet) (λ i. omega (arith, c.type_inv.bytes i)) c.in-Ok.ensures.given c.in-Ok.ensures.len is in
    let all = answered c.feed_ack_packet.result c.args.packet.now c.feed_ack_packet.new.packet c.args.bytes.now a c.feed_ack_packet.ensures.err in
    record { ok = all.ok; lawful = all.lawful; exact = all.exact; err = all.err; place = all.place; same = all.same }

pub returns-in-10 : goal.returns-in-10
unfolding body_at
returns-in-10 c =
    let is : placed c.ask_packet.result c.ask_packet.new.packet ≡ located c.in-Ok.head.len (end_with c.in-Ok.head.src c.in-Ok.head.dst (body_at c.in-Ok.head.code c.in-Ok.rest.now)) = search rules in
    let a = decoded c.reading_is_exact.ensures c.args.bytes.now c.in-Ok.head c.in-Ok.rest.now (placed c.ask_packet.result c.ask_packet.new.packet) (λ i. omega (arith, c.type_inv.bytes i)) c.in-Ok.ensures.given c.in-Ok.ensures.len is in
    let all = answered c.ask_packet.result c.args.packet.now c.ask_packet.new.packet c.args.bytes.now a c.ask_packet.ensures.err in
    record { ok = all.ok; lawful = all.lawful; exact = all.exact; err = all.err; place = all.place; same = all.same }

pub returns-in-11 : goal.returns-in-11
unfolding body_at
returns-in-11 c =
    let is : placed c.known_packet.result c.known_packet.new.packet ≡ located c.in-Ok.head.len (end_with c.in-Ok.head.src c.in-Ok.head.dst (body_at c.in-Ok.head.code c.in-Ok.rest.now)) = search rules in
    let a = decoded c.reading_is_exact.ensures c.args.bytes.now c.in-Ok.head c.in-Ok.rest.now (placed c.known_packet.result c.known_packet.new.packet) (λ i. omega (arith, c.type_inv.bytes i)) c.in-Ok.ensures.given c.in-Ok.ensures.len is in
    let all = answered c.known_packet.result c.args.packet.now c.known_packet.new.packet c.args.bytes.now a c.known_packet.ensures.err in
    record { ok = all.ok; lawful = all.lawful; exact = all.exact; err = all.err; place = all.place; same = all.same }

pub returns-in-12 : goal.returns-in-12
unfolding body_at
returns-in-12 c =
    let is : placed c.start_view_change_packet.result c.start_view_change_packet.new.packet ≡ located c.in-Ok.head.len (end_with c.in-Ok.head.src c.in-Ok.head.dst (body_at c.in-Ok.head.code c.in-Ok.rest.now)) = search rules in
    let a = decoded c.reading_is_exact.ensures c.args.bytes.now c.in-Ok.head c.in-Ok.rest.now (placed c.start_view_change_packet.result c.start_view_change_packet.new.packet) (λ i. omega (arith, c.type_inv.bytes i)) c.in-Ok.ensures.given c.in-Ok.ensures.len is in
    let all = answered c.start_view_change_packet.result c.args.packet.now c.start_view_change_packet.new.packet c.args.bytes.now a c.start_view_change_packet.ensures.err in
    record { ok = all.ok; lawful = all.lawful; exact = all.exact; err = all.err; place = all.place; same = all.same }

pub returns-in-13 : goal.returns-in-13
unfolding body_at
returns-in-13 c =
    let is : placed c.vote_packet.result c.vote_packet.new.packet ≡ located c.in-Ok.head.len (end_with c.in-Ok.head.src c.in-Ok.head.dst (body_at c.in-Ok.head.code c.in-Ok.rest.now)) = search rules in
    let a = decoded c.reading_is_exact.ensures c.args.bytes.now c.in-Ok.head c.in-Ok.rest.now (placed c.vote_packet.result c.vote_packet.new.packet) (λ i. omega (arith, c.type_inv.bytes i)) c.in-Ok.ensures.given c.in-Ok.ensures.len is in
    let all = answered c.vote_packet.result c.args.packet.now c.vote_packet.new.packet c.args.bytes.now a c.vote_packet.ensures.err in
    record { ok = all.ok; lawful = all.lawful; exact = all.exact; err = all.err; place = all.place; same = all.same }

pub returns-in-14 : goal.returns-in-14
unfolding body_at
returns-in-14 c =
    let is : placed c.pull_packet.result c.pull_packet.new.packet ≡ located c.in-Ok.head.len (end_with c.in-Ok.head.src c.in-Ok.head.dst (body_at c.in-Ok.head.code c.in-Ok.rest.now)) = search rules in
    let a = decoded c.reading_is_exact.ensures c.args.bytes.now c.in-Ok.head c.in-Ok.rest.now (placed c.pull_packet.result c.pull_packet.new.packet) (λ i. omega (arith, c.type_inv.bytes i)) c.in-Ok.ensures.given c.in-Ok.ensures.len is in
    let all = answered c.pull_packet.result c.args.packet.now c.pull_packet.new.packet c.args.bytes.now a c.pull_packet.ensures.err in
    record { ok = all.ok; lawful = all.lawful; exact = all.exact; err = all.err; place = all.place; same = all.same }

pub returns-in-15 : goal.returns-in-15
unfolding body_at
returns-in-15 c =
    let is : placed c.page_packet.result c.page_packet.new.packet ≡ located c.in-Ok.head.len (end_with c.in-Ok.head.src c.in-Ok.head.dst (body_at c.in-Ok.head.code c.in-Ok.rest.now)) = search rules in
    let a = decoded c.reading_is_exact.ensures c.args.bytes.now c.in-Ok.head c.in-Ok.rest.now (placed c.page_packet.result c.page_packet.new.packet) (λ i. omega (arith, c.type_inv.bytes i)) c.in-Ok.ensures.given c.in-Ok.ensures.len is in
    let all = answered c.page_packet.result c.args.packet.now c.page_packet.new.packet c.args.bytes.now a c.page_packet.ensures.err in
    record { ok = all.ok; lawful = all.lawful; exact = all.exact; err = all.err; place = all.place; same = all.same }

pub returns-in-16 : goal.returns-in-16
unfolding body_at
returns-in-16 c =
    let is : placed c.config_packet.result c.config_packet.new.packet ≡ located c.in-Ok.head.len (end_with c.in-Ok.head.src c.in-Ok.head.dst (body_at c.in-Ok.head.code c.in-Ok.rest.now)) = search rules in
    let a = decoded c.reading_is_exact.ensures c.args.bytes.now c.in-Ok.head c.in-Ok.rest.now (placed c.config_packet.result c.config_packet.new.packet) (λ i. omega (arith, c.type_inv.bytes i)) c.in-Ok.ensures.given c.in-Ok.ensures.len is in
    let all = answered c.config_packet.result c.args.packet.now c.config_packet.new.packet c.args.bytes.now a c.config_packet.ensures.err in
    record { ok = all.ok; lawful = all.lawful; exact = all.exact; err = all.err; place = all.place; same = all.same }

pub returns-in-17 : goal.returns-in-17
unfolding body_at
returns-in-17 c =
    let is : placed c.route_packet.result c.route_packet.new.packet ≡ located c.in-Ok.head.len (end_with c.in-Ok.head.src c.in-Ok.head.dst (body_at c.in-Ok.head.code c.in-Ok.rest.now)) = search rules in
    let a = decoded c.reading_is_exact.ensures c.args.bytes.now c.in-Ok.head c.in-Ok.rest.now (placed c.route_packet.result c.route_packet.new.packet) (λ i. omega (arith, c.type_inv.bytes i)) c.in-Ok.ensures.given c.in-Ok.ensures.len is in
    let all = answered c.route_packet.result c.args.packet.now c.route_packet.new.packet c.args.bytes.now a c.route_packet.ensures.err in
    record { ok = all.ok; lawful = all.lawful; exact = all.exact; err = all.err; place = all.place; same = all.same }

pub returns-in-18 : goal.returns-in-18
unfolding body_at
returns-in-18 c =
    let is : placed c.refuse_packet.result c.refuse_packet.new.packet ≡ located c.in-Ok.head.len (end_with c.in-Ok.head.src c.in-Ok.head.dst (body_at c.in-Ok.head.code c.in-Ok.rest.now)) = search rules in
    let a = decoded c.reading_is_exact.ensures c.args.bytes.now c.in-Ok.head c.in-Ok.rest.now (placed c.refuse_packet.result c.refuse_packet.new.packet) (λ i. omega (arith, c.type_inv.bytes i)) c.in-Ok.ensures.given c.in-Ok.ensures.len is in
    let all = answered c.refuse_packet.result c.args.packet.now c.refuse_packet.new.packet c.args.bytes.now a c.refuse_packet.ensures.err in
    record { ok = all.ok; lawful = all.lawful; exact = all.exact; err = all.err; place = all.place; same = all.same }

pub returns-in_default : goal.returns-in_default
unfolding body_at
returns-in_default c =
    let is : placed c.refused_packet.result c.refused_packet.new.packet ≡ located c.in-Ok.head.len (end_with c.in-Ok.head.src c.in-Ok.head.dst (body_at c.in-Ok.head.code c.in-Ok.rest.now)) = grind (arith, common_steps) in
    let a = decoded c.reading_is_exact.ensures c.args.bytes.now c.in-Ok.head c.in-Ok.rest.now (placed c.refused_packet.result c.refused_packet.new.packet) (λ i. omega (arith, c.type_inv.bytes i)) c.in-Ok.ensures.given c.in-Ok.ensures.len is in
    let all = answered c.refused_packet.result c.args.packet.now c.refused_packet.new.packet c.args.bytes.now a c.refused_packet.ensures.err in
    record { ok = all.ok; lawful = all.lawful; exact = all.exact; err = all.err; place = all.place; same = all.same }
