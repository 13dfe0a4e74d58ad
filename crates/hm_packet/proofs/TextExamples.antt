-- Computed examples: the texts of packets.
use Rattle.std.proofs.Common.{◌≡◌, ℕ, List, [], ◌∷◌, refl}
use Rattle.std.specs.Prelude.{codes}
use Rattle.std.specs.Fmt.{digits}
use Rattle.hex.specs.Hex.{encode_with}
use Rattle.hm_base.specs.declared.node.Node.{Node}
use Rattle.hm_base.specs.declared.node.Node.TheVariants.{Client, Switch, Replica, Config as Service}
use Rattle.hm_base.specs.declared.stamp.Stamp.{Stamp}
use Rattle.hm_base.specs.declared.operation.Answer.TheVariants.{Nothing}
use Rattle.hm_base.specs.declared.entry.Entry.{Entry}
use Rattle.hm_base.specs.declared.entry.Act.TheVariants as act
use Rattle.hm_packet.specs.declared.body.Body.{Body}
use Rattle.hm_packet.specs.declared.body.Body.TheVariants.{Read, Put, Reply, Feed, Vote, Config, Route}
use Rattle.hm_packet.specs.Messages.{Message}
use Rattle.hm_packet.specs.Texts.{packet_text}

abbrev at : ℕ → ℕ → Stamp
at switch seq = record { switch = switch; seq = seq }

abbrev from_to : Node → Node → Body → Message
from_to src dst body = record { src = src; dst = dst; body = body }

abbrev put_of : Stamp → ℕ → ℕ → ℕ → List ℕ → Entry
put_of stamp client request object value = record { stamp = stamp; client = client; request = request; object = object; act = act.Put value }

a-read : packet_text (from_to (Client 7) (Switch 1) (Read (record { request = 18446744073709551615; object = 4294967295 }))) ≡ codes "c7 s1 read 18446744073709551615 4294967295"
unfolding digits
a-read = refl

a-put : packet_text (from_to (Switch 1) (Replica 0) (Put (record { stamp = at 1 1; client = 7; request = 1; object = 5; value = 97 ∷ [] }))) ≡ codes "s1 r0 put 1.1 7 1 5 61"
unfolding encode_with digits
a-put = refl

a-reply : packet_text (from_to (Replica 0) (Client 8) (Reply (record { request = 1; version = at 0 0; answer = Nothing }))) ≡ codes "r0 c8 reply 1 0.0 none"
unfolding digits
a-reply = refl

a-feed : packet_text (from_to (Replica 0) (Replica 1) (Feed (record { view = 0; start = 0; first = 1; commit = 0; entries = put_of (at 1 2) 7 2 5 (98 ∷ []) ∷ [] }))) ≡ codes "r0 r1 feed 0 0 1 0 1 1.2 7 2 5 62"
unfolding encode_with digits
a-feed = refl

an-empty-feed : packet_text (from_to (Replica 1) (Replica 2) (Feed (record { view = 1; start = 0; first = 0; commit = 0; entries = [] }))) ≡ codes "r1 r2 feed 1 0 0 0 0"
unfolding digits
an-empty-feed = refl

a-vote : packet_text (from_to (Replica 2) (Replica 1) (Vote (record { view = 1; normal = 0; len = 0; commit = 0 }))) ≡ codes "r2 r1 vote 1 0 0 0"
unfolding digits
a-vote = refl

a-config : packet_text (from_to Service (Replica 0) (Config (record { view = 1; members = 0 ∷ 1 ∷ [] }))) ≡ codes "cfg r0 config 1 2 0 1"
unfolding digits
a-config = refl

a-route : packet_text (from_to Service (Switch 1) (Route (record { view = 1; entry = 0; normal = 1; members = 0 ∷ 1 ∷ [] }))) ≡ codes "cfg s1 route 1 0 1 2 0 1"
unfolding digits
a-route = refl
