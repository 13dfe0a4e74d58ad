use Rattle.std.proofs.Common.{◌≡◌, ℕ, ◌+◌, List, length, sym, ap, ◌∙◌, subst, arith}
use Rattle.hm_parts.specs.Seen.{Posted, Known, Noted}
use Rattle.hm_rules.specs.World.{World}
use Rattle.hm_world.specs.StateFields.{world_of, IsReady}
use Rattle.hm_world.proofs.state.State.begin.Goals as goal

pub reserve-requires-4 : goal.reserve-requires-4
reserve-requires-4 c = omega (arith, c.requires.kept.net, c.requires.few)

pub returns-clause-begun : goal.returns-clause-begun
returns-clause-begun c =
    let old = c.args.self.now in
    let kept = c.requires.kept in
    let k = c.in_ok-reserve.ensures.ok in
    let o = c.in_ok-reserve-2.ensures.ok in
    let n = c.in_ok-reserve-4.ensures.ok in
    let net = c.reserve-4.new.self in
    let seen = c.reserve-2.new.self in
    let clients = c.reserve.new.self in
    let packets : length net.packets ≡ length old.net.packets = ap (λ (x : Posted). length x.packets) n in
    let limit : net.limit ≡ length old.net.packets + 24 = ap (λ (x : Posted). x.limit) n in
    let marks : length seen.history ≡ length old.observer.history = ap (λ (x : Noted). length x.history) o in
    let most : seen.limit ≡ length old.observer.history + c.cap.result + 1 = ap (λ (x : Noted). x.limit) o in
    let entries : seen.cap ≡ c.cap.result = ap (λ (x : Noted). x.cap) o in
    let times : clients.kept ≡ old.clients.kept = ap (λ (x : Known). x.kept) k in
    let room : clients.limit ≡ old.clients.kept + 1 = ap (λ (x : Known). x.limit) k in
    let world : world_of (record old { net = net; observer = seen; clients = clients; stopped = c.reserve-3.new.self }) ≡ world_of old =
    ap (λ (x : Posted). world_of (record old { net = x; observer = seen; clients = clients; stopped = c.reserve-3.new.self })) n
    ∙ ap (λ (x : Noted). world_of (record old { observer = x; clients = clients; stopped = c.reserve-3.new.self })) o
    ∙ ap (λ (x : Known). world_of (record old { clients = x; stopped = c.reserve-3.new.self })) k
    ∙ ap (λ (l : List ℕ). record (world_of old) { stopped = l }) c.in_ok-reserve-3.ensures.items in
    record {
      room = record {
        setup = kept.setup;
        few = omega (arith, c.requires.few);
        net = omega (arith, packets, limit);
        sent = omega (arith, limit, c.in_ok-reserve-4.ensures.within, kept.net);
        marks = omega (arith, marks, most, c.cap.ensures.value);
        entries = omega (arith, entries, c.cap.ensures.value);
        clients = omega (arith, times, room);
        requests = omega (arith, times, kept.clients);
        steps = omega (arith, kept.steps);
        stops = omega (arith, c.in_ok-reserve-3.ensures.ok, c.in_ok-reserve-3.ensures.len);
        service = kept.service;
      };
      ready = subst (λ (w : World). IsReady w) (sym world) c.requires.ready;
    }
