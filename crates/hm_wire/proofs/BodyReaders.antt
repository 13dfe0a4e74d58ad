-- The readers of the kinds of packets.
use Rattle.std.proofs.Common.{ℕ, List, [], ◌∷◌, ◌++◌, Ok, refl, ap, ◌∙◌}
use Rattle.std.proofs.lemmas.List.{append-nil}
use Rattle.hm_packet.specs.declared.body.Body.TheVariants as body
use Rattle.hm_packet.specs.declared.body.Read.{Read}
use Rattle.hm_packet.specs.declared.body.Write.{Write}
use Rattle.hm_packet.specs.declared.body.FastRead.{FastRead}
use Rattle.hm_packet.specs.declared.body.NormalRead.{NormalRead}
use Rattle.hm_packet.specs.declared.body.Done.{Done}
use Rattle.hm_packet.specs.declared.body.Reply.{Reply}
use Rattle.hm_packet.specs.declared.body.Feed.{Feed}
use Rattle.hm_packet.specs.declared.body.FeedAck.{FeedAck}
use Rattle.hm_packet.specs.declared.body.Ask.{Ask}
use Rattle.hm_packet.specs.declared.body.Known.{Known}
use Rattle.hm_packet.specs.declared.body.StartViewChange.{StartViewChange}
use Rattle.hm_packet.specs.declared.body.Vote.{Vote}
use Rattle.hm_packet.specs.declared.body.Pull.{Pull}
use Rattle.hm_packet.specs.declared.body.Page.{Page}
use Rattle.hm_packet.specs.declared.body.Config.{Config}
use Rattle.hm_packet.specs.declared.body.Refuse.{Refuse}
use Rattle.hm_packet.specs.declared.body.Refused.{Refused}
use Rattle.hm_packet.specs.declared.body.Put.{Put as PutBody}
use Rattle.hm_packet.specs.Routing.{Routing}
use Rattle.hm_wire.specs.declared.malformed.Reason.TheVariants as reason
use Rattle.hm_wire.specs.Grammar.{number}
use Rattle.hm_wire.specs.Grammar.Size.{U8, U32, U64}
use Rattle.hm_wire.specs.Packets.{is_within, stamp_fields, value_fields, answer_fields, page_fields, replica_field, members_fields, stamp_numbers, value_numbers, answer_numbers, page_numbers, members_numbers, body_numbers}
use Rattle.hm_wire.specs.Reading.{◌>>=◌, field_at, number_at, stamp_at, value_at, answer_at, entries_at, members_at, read_at, write_at, put_at, fast_read_at, normal_read_at, done_at, reply_at, feed_at, feed_ack_at, ask_at, known_at, start_view_change_at, vote_at, pull_at, page_at, config_at, route_at, refuse_at, refused_at}
use Rattle.hm_wire.proofs.Readers.{IsReader, reader_of, chain, finish}
use Rattle.hm_wire.proofs.PartReaders.{alone, field_reader, number_reader, stamp_reader, value_reader, answer_reader, entries_reader, members_reader}

abbrev pub read_body : Read → List ℕ
read_body b = body_numbers (body.Read b)

pub read_reader : IsReader (λ rest. number U64 (number U32 rest)) read_body read_at
unfolding read_at
read_reader = reader_of (λ rest. number U64 (number U32 rest)) read_body read_at (
    chain (number U64) (λ rest. number U32 rest) alone (number_at U64) read_body ([]) (λ request. number_at U32 request.1 >>= λ object. Ok (record { request = request.0; object = object.0 }, object.1)) (number_reader U64) (λ request.
    chain (number U32) (λ rest. rest) alone (number_at U32) read_body (request ∷ []) (λ object. Ok (record { request = request; object = object.0 }, object.1)) (number_reader U32) (λ object.
    finish read_body ((request ∷ []) ++ (object ∷ [])) (record { request = request; object = object }) refl)))

abbrev pub write_body : Write → List ℕ
write_body b = body_numbers (body.Write b)

pub write_reader : IsReader (λ rest. number U64 (number U32 (value_fields rest))) write_body write_at
unfolding write_at
write_reader = reader_of (λ rest. number U64 (number U32 (value_fields rest))) write_body write_at (
    chain (number U64) (λ rest. number U32 (value_fields rest)) alone (number_at U64) write_body ([]) (λ request. number_at U32 request.1 >>= λ object. value_at object.1 >>= λ value. Ok (record { request = request.0; object = object.0; value = value.0 }, value.1)) (number_reader U64) (λ request.
    chain (number U32) (λ rest. value_fields rest) alone (number_at U32) write_body (request ∷ []) (λ object. value_at object.1 >>= λ value. Ok (record { request = request; object = object.0; value = value.0 }, value.1)) (number_reader U32) (λ object.
    chain value_fields (λ rest. rest) value_numbers value_at write_body ((request ∷ []) ++ (object ∷ [])) (λ value. Ok (record { request = request; object = object; value = value.0 }, value.1)) value_reader (λ value.
    finish write_body (((request ∷ []) ++ (object ∷ [])) ++ (value_numbers value)) (record { request = request; object = object; value = value }) (ap (λ (l : List ℕ). ((request ∷ []) ++ (object ∷ [])) ++ l) (append-nil ((value_numbers value) ++ []) ∙ append-nil (value_numbers value)))))))

abbrev pub put_body : PutBody → List ℕ
put_body b = body_numbers (body.Put b)

pub put_reader : IsReader (λ rest. stamp_fields (number U32 (number U64 (number U32 (value_fields rest))))) put_body put_at
unfolding put_at
put_reader = reader_of (λ rest. stamp_fields (number U32 (number U64 (number U32 (value_fields rest))))) put_body put_at (
    chain stamp_fields (λ rest. number U32 (number U64 (number U32 (value_fields rest)))) stamp_numbers stamp_at put_body ([]) (λ stamp. number_at U32 stamp.1 >>= λ client. number_at U64 client.1 >>= λ request. number_at U32 request.1 >>= λ object. value_at object.1 >>= λ value. Ok (record { stamp = stamp.0; client = client.0; request = request.0; object = object.0; value = value.0 }, value.1)) stamp_reader (λ stamp.
    chain (number U32) (λ rest. number U64 (number U32 (value_fields rest))) alone (number_at U32) put_body (stamp_numbers stamp) (λ client. number_at U64 client.1 >>= λ request. number_at U32 request.1 >>= λ object. value_at object.1 >>= λ value. Ok (record { stamp = stamp; client = client.0; request = request.0; object = object.0; value = value.0 }, value.1)) (number_reader U32) (λ client.
    chain (number U64) (λ rest. number U32 (value_fields rest)) alone (number_at U64) put_body ((stamp_numbers stamp) ++ (client ∷ [])) (λ request. number_at U32 request.1 >>= λ object. value_at object.1 >>= λ value. Ok (record { stamp = stamp; client = client; request = request.0; object = object.0; value = value.0 }, value.1)) (number_reader U64) (λ request.
    chain (number U32) (λ rest. value_fields rest) alone (number_at U32) put_body (((stamp_numbers stamp) ++ (client ∷ [])) ++ (request ∷ [])) (λ object. value_at object.1 >>= λ value. Ok (record { stamp = stamp; client = client; request = request; object = object.0; value = value.0 }, value.1)) (number_reader U32) (λ object.
    chain value_fields (λ rest. rest) value_numbers value_at put_body ((((stamp_numbers stamp) ++ (client ∷ [])) ++ (request ∷ [])) ++ (object ∷ [])) (λ value. Ok (record { stamp = stamp; client = client; request = request; object = object; value = value.0 }, value.1)) value_reader (λ value.
    finish put_body (((((stamp_numbers stamp) ++ (client ∷ [])) ++ (request ∷ [])) ++ (object ∷ [])) ++ (value_numbers value)) (record { stamp = stamp; client = client; request = request; object = object; value = value }) (ap (λ (l : List ℕ). ((((stamp_numbers stamp) ++ (client ∷ [])) ++ (request ∷ [])) ++ (object ∷ [])) ++ l) (append-nil ((value_numbers value) ++ []) ∙ append-nil (value_numbers value)))))))))

abbrev pub fast_read_body : FastRead → List ℕ
fast_read_body b = body_numbers (body.FastRead b)

pub fast_read_reader : IsReader (λ rest. stamp_fields (number U32 (number U64 (number U32 rest)))) fast_read_body fast_read_at
unfolding fast_read_at
fast_read_reader = reader_of (λ rest. stamp_fields (number U32 (number U64 (number U32 rest)))) fast_read_body fast_read_at (
    chain stamp_fields (λ rest. number U32 (number U64 (number U32 rest))) stamp_numbers stamp_at fast_read_body ([]) (λ stamp. number_at U32 stamp.1 >>= λ client. number_at U64 client.1 >>= λ request. number_at U32 request.1 >>= λ object. Ok (record { stamp = stamp.0; client = client.0; request = request.0; object = object.0 }, object.1)) stamp_reader (λ stamp.
    chain (number U32) (λ rest. number U64 (number U32 rest)) alone (number_at U32) fast_read_body (stamp_numbers stamp) (λ client. number_at U64 client.1 >>= λ request. number_at U32 request.1 >>= λ object. Ok (record { stamp = stamp; client = client.0; request = request.0; object = object.0 }, object.1)) (number_reader U32) (λ client.
    chain (number U64) (λ rest. number U32 rest) alone (number_at U64) fast_read_body ((stamp_numbers stamp) ++ (client ∷ [])) (λ request. number_at U32 request.1 >>= λ object. Ok (record { stamp = stamp; client = client; request = request.0; object = object.0 }, object.1)) (number_reader U64) (λ request.
    chain (number U32) (λ rest. rest) alone (number_at U32) fast_read_body (((stamp_numbers stamp) ++ (client ∷ [])) ++ (request ∷ [])) (λ object. Ok (record { stamp = stamp; client = client; request = request; object = object.0 }, object.1)) (number_reader U32) (λ object.
    finish fast_read_body ((((stamp_numbers stamp) ++ (client ∷ [])) ++ (request ∷ [])) ++ (object ∷ [])) (record { stamp = stamp; client = client; request = request; object = object }) refl)))))

abbrev pub normal_read_body : NormalRead → List ℕ
normal_read_body b = body_numbers (body.NormalRead b)

pub normal_read_reader : IsReader (λ rest. number U32 (number U64 (number U32 rest))) normal_read_body normal_read_at
unfolding normal_read_at
normal_read_reader = reader_of (λ rest. number U32 (number U64 (number U32 rest))) normal_read_body normal_read_at (
    chain (number U32) (λ rest. number U64 (number U32 rest)) alone (number_at U32) normal_read_body ([]) (λ client. number_at U64 client.1 >>= λ request. number_at U32 request.1 >>= λ object. Ok (record { client = client.0; request = request.0; object = object.0 }, object.1)) (number_reader U32) (λ client.
    chain (number U64) (λ rest. number U32 rest) alone (number_at U64) normal_read_body (client ∷ []) (λ request. number_at U32 request.1 >>= λ object. Ok (record { client = client; request = request.0; object = object.0 }, object.1)) (number_reader U64) (λ request.
    chain (number U32) (λ rest. rest) alone (number_at U32) normal_read_body ((client ∷ []) ++ (request ∷ [])) (λ object. Ok (record { client = client; request = request; object = object.0 }, object.1)) (number_reader U32) (λ object.
    finish normal_read_body (((client ∷ []) ++ (request ∷ [])) ++ (object ∷ [])) (record { client = client; request = request; object = object }) refl))))

abbrev pub done_body : Done → List ℕ
done_body b = body_numbers (body.Done b)

pub done_reader : IsReader (λ rest. stamp_fields (number U32 (number U64 rest))) done_body done_at
unfolding done_at
done_reader = reader_of (λ rest. stamp_fields (number U32 (number U64 rest))) done_body done_at (
    chain stamp_fields (λ rest. number U32 (number U64 rest)) stamp_numbers stamp_at done_body ([]) (λ stamp. number_at U32 stamp.1 >>= λ client. number_at U64 client.1 >>= λ request. Ok (record { stamp = stamp.0; client = client.0; request = request.0 }, request.1)) stamp_reader (λ stamp.
    chain (number U32) (λ rest. number U64 rest) alone (number_at U32) done_body (stamp_numbers stamp) (λ client. number_at U64 client.1 >>= λ request. Ok (record { stamp = stamp; client = client.0; request = request.0 }, request.1)) (number_reader U32) (λ client.
    chain (number U64) (λ rest. rest) alone (number_at U64) done_body ((stamp_numbers stamp) ++ (client ∷ [])) (λ request. Ok (record { stamp = stamp; client = client; request = request.0 }, request.1)) (number_reader U64) (λ request.
    finish done_body (((stamp_numbers stamp) ++ (client ∷ [])) ++ (request ∷ [])) (record { stamp = stamp; client = client; request = request }) refl))))

abbrev pub reply_body : Reply → List ℕ
reply_body b = body_numbers (body.Reply b)

pub reply_reader : IsReader (λ rest. number U64 (stamp_fields (answer_fields rest))) reply_body reply_at
unfolding reply_at
reply_reader = reader_of (λ rest. number U64 (stamp_fields (answer_fields rest))) reply_body reply_at (
    chain (number U64) (λ rest. stamp_fields (answer_fields rest)) alone (number_at U64) reply_body ([]) (λ request. stamp_at request.1 >>= λ version. answer_at version.1 >>= λ answer. Ok (record { request = request.0; version = version.0; answer = answer.0 }, answer.1)) (number_reader U64) (λ request.
    chain stamp_fields (λ rest. answer_fields rest) stamp_numbers stamp_at reply_body (request ∷ []) (λ version. answer_at version.1 >>= λ answer. Ok (record { request = request; version = version.0; answer = answer.0 }, answer.1)) stamp_reader (λ version.
    chain answer_fields (λ rest. rest) answer_numbers answer_at reply_body ((request ∷ []) ++ (stamp_numbers version)) (λ answer. Ok (record { request = request; version = version; answer = answer.0 }, answer.1)) answer_reader (λ answer.
    finish reply_body (((request ∷ []) ++ (stamp_numbers version)) ++ (answer_numbers answer)) (record { request = request; version = version; answer = answer }) (ap (λ (l : List ℕ). ((request ∷ []) ++ (stamp_numbers version)) ++ l) (append-nil ((answer_numbers answer) ++ []) ∙ append-nil (answer_numbers answer)))))))

abbrev pub feed_body : Feed → List ℕ
feed_body b = body_numbers (body.Feed b)

pub feed_reader : IsReader (λ rest. number U32 (number U32 (number U32 (number U32 (page_fields rest))))) feed_body feed_at
unfolding feed_at
feed_reader = reader_of (λ rest. number U32 (number U32 (number U32 (number U32 (page_fields rest))))) feed_body feed_at (
    chain (number U32) (λ rest. number U32 (number U32 (number U32 (page_fields rest)))) alone (number_at U32) feed_body ([]) (λ view. number_at U32 view.1 >>= λ start. number_at U32 start.1 >>= λ first. number_at U32 first.1 >>= λ commit. entries_at commit.1 >>= λ entries. Ok (record { view = view.0; start = start.0; first = first.0; commit = commit.0; entries = entries.0 }, entries.1)) (number_reader U32) (λ view.
    chain (number U32) (λ rest. number U32 (number U32 (page_fields rest))) alone (number_at U32) feed_body (view ∷ []) (λ start. number_at U32 start.1 >>= λ first. number_at U32 first.1 >>= λ commit. entries_at commit.1 >>= λ entries. Ok (record { view = view; start = start.0; first = first.0; commit = commit.0; entries = entries.0 }, entries.1)) (number_reader U32) (λ start.
    chain (number U32) (λ rest. number U32 (page_fields rest)) alone (number_at U32) feed_body ((view ∷ []) ++ (start ∷ [])) (λ first. number_at U32 first.1 >>= λ commit. entries_at commit.1 >>= λ entries. Ok (record { view = view; start = start; first = first.0; commit = commit.0; entries = entries.0 }, entries.1)) (number_reader U32) (λ first.
    chain (number U32) (λ rest. page_fields rest) alone (number_at U32) feed_body (((view ∷ []) ++ (start ∷ [])) ++ (first ∷ [])) (λ commit. entries_at commit.1 >>= λ entries. Ok (record { view = view; start = start; first = first; commit = commit.0; entries = entries.0 }, entries.1)) (number_reader U32) (λ commit.
    chain page_fields (λ rest. rest) page_numbers entries_at feed_body ((((view ∷ []) ++ (start ∷ [])) ++ (first ∷ [])) ++ (commit ∷ [])) (λ entries. Ok (record { view = view; start = start; first = first; commit = commit; entries = entries.0 }, entries.1)) entries_reader (λ entries.
    finish feed_body (((((view ∷ []) ++ (start ∷ [])) ++ (first ∷ [])) ++ (commit ∷ [])) ++ (page_numbers entries)) (record { view = view; start = start; first = first; commit = commit; entries = entries }) refl))))))

abbrev pub feed_ack_body : FeedAck → List ℕ
feed_ack_body b = body_numbers (body.FeedAck b)

pub feed_ack_reader : IsReader (λ rest. number U32 (number U32 rest)) feed_ack_body feed_ack_at
unfolding feed_ack_at
feed_ack_reader = reader_of (λ rest. number U32 (number U32 rest)) feed_ack_body feed_ack_at (
    chain (number U32) (λ rest. number U32 rest) alone (number_at U32) feed_ack_body ([]) (λ view. number_at U32 view.1 >>= λ len. Ok (record { view = view.0; len = len.0 }, len.1)) (number_reader U32) (λ view.
    chain (number U32) (λ rest. rest) alone (number_at U32) feed_ack_body (view ∷ []) (λ len. Ok (record { view = view; len = len.0 }, len.1)) (number_reader U32) (λ len.
    finish feed_ack_body ((view ∷ []) ++ (len ∷ [])) (record { view = view; len = len }) refl)))

abbrev pub ask_body : Ask → List ℕ
ask_body b = body_numbers (body.Ask b)

pub ask_reader : IsReader (λ rest. number U32 (number U32 (number U64 rest))) ask_body ask_at
unfolding ask_at
ask_reader = reader_of (λ rest. number U32 (number U32 (number U64 rest))) ask_body ask_at (
    chain (number U32) (λ rest. number U32 (number U64 rest)) alone (number_at U32) ask_body ([]) (λ view. number_at U32 view.1 >>= λ client. number_at U64 client.1 >>= λ request. Ok (record { view = view.0; client = client.0; request = request.0 }, request.1)) (number_reader U32) (λ view.
    chain (number U32) (λ rest. number U64 rest) alone (number_at U32) ask_body (view ∷ []) (λ client. number_at U64 client.1 >>= λ request. Ok (record { view = view; client = client.0; request = request.0 }, request.1)) (number_reader U32) (λ client.
    chain (number U64) (λ rest. rest) alone (number_at U64) ask_body ((view ∷ []) ++ (client ∷ [])) (λ request. Ok (record { view = view; client = client; request = request.0 }, request.1)) (number_reader U64) (λ request.
    finish ask_body (((view ∷ []) ++ (client ∷ [])) ++ (request ∷ [])) (record { view = view; client = client; request = request }) refl))))

abbrev pub known_body : Known → List ℕ
known_body b = body_numbers (body.Known b)

pub known_reader : IsReader (λ rest. number U32 (number U32 rest)) known_body known_at
unfolding known_at
known_reader = reader_of (λ rest. number U32 (number U32 rest)) known_body known_at (
    chain (number U32) (λ rest. number U32 rest) alone (number_at U32) known_body ([]) (λ view. number_at U32 view.1 >>= λ len. Ok (record { view = view.0; len = len.0 }, len.1)) (number_reader U32) (λ view.
    chain (number U32) (λ rest. rest) alone (number_at U32) known_body (view ∷ []) (λ len. Ok (record { view = view; len = len.0 }, len.1)) (number_reader U32) (λ len.
    finish known_body ((view ∷ []) ++ (len ∷ [])) (record { view = view; len = len }) refl)))

abbrev pub start_view_change_body : StartViewChange → List ℕ
start_view_change_body b = body_numbers (body.StartViewChange b)

pub start_view_change_reader : IsReader (λ rest. number U32 rest) start_view_change_body start_view_change_at
unfolding start_view_change_at
start_view_change_reader = reader_of (λ rest. number U32 rest) start_view_change_body start_view_change_at (
    chain (number U32) (λ rest. rest) alone (number_at U32) start_view_change_body ([]) (λ view. Ok (record { view = view.0 }, view.1)) (number_reader U32) (λ view.
    finish start_view_change_body (view ∷ []) (record { view = view }) refl))

abbrev pub vote_body : Vote → List ℕ
vote_body b = body_numbers (body.Vote b)

pub vote_reader : IsReader (λ rest. number U32 (number U32 (number U32 (number U32 rest)))) vote_body vote_at
unfolding vote_at
vote_reader = reader_of (λ rest. number U32 (number U32 (number U32 (number U32 rest)))) vote_body vote_at (
    chain (number U32) (λ rest. number U32 (number U32 (number U32 rest))) alone (number_at U32) vote_body ([]) (λ view. number_at U32 view.1 >>= λ normal. number_at U32 normal.1 >>= λ len. number_at U32 len.1 >>= λ commit. Ok (record { view = view.0; normal = normal.0; len = len.0; commit = commit.0 }, commit.1)) (number_reader U32) (λ view.
    chain (number U32) (λ rest. number U32 (number U32 rest)) alone (number_at U32) vote_body (view ∷ []) (λ normal. number_at U32 normal.1 >>= λ len. number_at U32 len.1 >>= λ commit. Ok (record { view = view; normal = normal.0; len = len.0; commit = commit.0 }, commit.1)) (number_reader U32) (λ normal.
    chain (number U32) (λ rest. number U32 rest) alone (number_at U32) vote_body ((view ∷ []) ++ (normal ∷ [])) (λ len. number_at U32 len.1 >>= λ commit. Ok (record { view = view; normal = normal; len = len.0; commit = commit.0 }, commit.1)) (number_reader U32) (λ len.
    chain (number U32) (λ rest. rest) alone (number_at U32) vote_body (((view ∷ []) ++ (normal ∷ [])) ++ (len ∷ [])) (λ commit. Ok (record { view = view; normal = normal; len = len; commit = commit.0 }, commit.1)) (number_reader U32) (λ commit.
    finish vote_body ((((view ∷ []) ++ (normal ∷ [])) ++ (len ∷ [])) ++ (commit ∷ [])) (record { view = view; normal = normal; len = len; commit = commit }) refl)))))

abbrev pub pull_body : Pull → List ℕ
pull_body b = body_numbers (body.Pull b)

pub pull_reader : IsReader (λ rest. number U32 (number U32 rest)) pull_body pull_at
unfolding pull_at
pull_reader = reader_of (λ rest. number U32 (number U32 rest)) pull_body pull_at (
    chain (number U32) (λ rest. number U32 rest) alone (number_at U32) pull_body ([]) (λ view. number_at U32 view.1 >>= λ first. Ok (record { view = view.0; first = first.0 }, first.1)) (number_reader U32) (λ view.
    chain (number U32) (λ rest. rest) alone (number_at U32) pull_body (view ∷ []) (λ first. Ok (record { view = view; first = first.0 }, first.1)) (number_reader U32) (λ first.
    finish pull_body ((view ∷ []) ++ (first ∷ [])) (record { view = view; first = first }) refl)))

abbrev pub page_body : Page → List ℕ
page_body b = body_numbers (body.Page b)

pub page_reader : IsReader (λ rest. number U32 (number U32 (page_fields rest))) page_body page_at
unfolding page_at
page_reader = reader_of (λ rest. number U32 (number U32 (page_fields rest))) page_body page_at (
    chain (number U32) (λ rest. number U32 (page_fields rest)) alone (number_at U32) page_body ([]) (λ view. number_at U32 view.1 >>= λ first. entries_at first.1 >>= λ entries. Ok (record { view = view.0; first = first.0; entries = entries.0 }, entries.1)) (number_reader U32) (λ view.
    chain (number U32) (λ rest. page_fields rest) alone (number_at U32) page_body (view ∷ []) (λ first. entries_at first.1 >>= λ entries. Ok (record { view = view; first = first.0; entries = entries.0 }, entries.1)) (number_reader U32) (λ first.
    chain page_fields (λ rest. rest) page_numbers entries_at page_body ((view ∷ []) ++ (first ∷ [])) (λ entries. Ok (record { view = view; first = first; entries = entries.0 }, entries.1)) entries_reader (λ entries.
    finish page_body (((view ∷ []) ++ (first ∷ [])) ++ (page_numbers entries)) (record { view = view; first = first; entries = entries }) refl))))

abbrev pub config_body : Config → List ℕ
config_body b = body_numbers (body.Config b)

pub config_reader : IsReader (λ rest. number U32 (members_fields rest)) config_body config_at
unfolding config_at
config_reader = reader_of (λ rest. number U32 (members_fields rest)) config_body config_at (
    chain (number U32) (λ rest. members_fields rest) alone (number_at U32) config_body ([]) (λ view. members_at view.1 >>= λ members. Ok (record { view = view.0; members = members.0 }, members.1)) (number_reader U32) (λ view.
    chain members_fields (λ rest. rest) members_numbers members_at config_body (view ∷ []) (λ members. Ok (record { view = view; members = members.0 }, members.1)) members_reader (λ members.
    finish config_body ((view ∷ []) ++ (members_numbers members)) (record { view = view; members = members }) refl)))

abbrev pub route_body : Routing → List ℕ
route_body b = body_numbers (body.Route b)

pub route_reader : IsReader (λ rest. number U32 (replica_field (replica_field (members_fields rest)))) route_body route_at
unfolding route_at
route_reader = reader_of (λ rest. number U32 (replica_field (replica_field (members_fields rest)))) route_body route_at (
    chain (number U32) (λ rest. replica_field (replica_field (members_fields rest))) alone (number_at U32) route_body ([]) (λ view. field_at U8 (is_within 0 6) reason.Range view.1 >>= λ entry. field_at U8 (is_within 0 6) reason.Range entry.1 >>= λ normal. members_at normal.1 >>= λ members. Ok (record { view = view.0; entry = entry.0; normal = normal.0; members = members.0 }, members.1)) (number_reader U32) (λ view.
    chain replica_field (λ rest. replica_field (members_fields rest)) alone (field_at U8 (is_within 0 6) reason.Range) route_body (view ∷ []) (λ entry. field_at U8 (is_within 0 6) reason.Range entry.1 >>= λ normal. members_at normal.1 >>= λ members. Ok (record { view = view; entry = entry.0; normal = normal.0; members = members.0 }, members.1)) (field_reader U8 (is_within 0 6) reason.Range) (λ entry.
    chain replica_field (λ rest. members_fields rest) alone (field_at U8 (is_within 0 6) reason.Range) route_body ((view ∷ []) ++ (entry ∷ [])) (λ normal. members_at normal.1 >>= λ members. Ok (record { view = view; entry = entry; normal = normal.0; members = members.0 }, members.1)) (field_reader U8 (is_within 0 6) reason.Range) (λ normal.
    chain members_fields (λ rest. rest) members_numbers members_at route_body (((view ∷ []) ++ (entry ∷ [])) ++ (normal ∷ [])) (λ members. Ok (record { view = view; entry = entry; normal = normal; members = members.0 }, members.1)) members_reader (λ members.
    finish route_body ((((view ∷ []) ++ (entry ∷ [])) ++ (normal ∷ [])) ++ (members_numbers members)) (record { view = view; entry = entry; normal = normal; members = members }) refl)))))

abbrev pub refuse_body : Refuse → List ℕ
refuse_body b = body_numbers (body.Refuse b)

pub refuse_reader : IsReader (λ rest. number U32 rest) refuse_body refuse_at
unfolding refuse_at
refuse_reader = reader_of (λ rest. number U32 rest) refuse_body refuse_at (
    chain (number U32) (λ rest. rest) alone (number_at U32) refuse_body ([]) (λ switch. Ok (record { switch = switch.0 }, switch.1)) (number_reader U32) (λ switch.
    finish refuse_body (switch ∷ []) (record { switch = switch }) refl))

abbrev pub refused_body : Refused → List ℕ
refused_body b = body_numbers (body.Refused b)

pub refused_reader : IsReader (λ rest. number U32 rest) refused_body refused_at
unfolding refused_at
refused_reader = reader_of (λ rest. number U32 rest) refused_body refused_at (
    chain (number U32) (λ rest. rest) alone (number_at U32) refused_body ([]) (λ switch. Ok (record { switch = switch.0 }, switch.1)) (number_reader U32) (λ switch.
    finish refused_body (switch ∷ []) (record { switch = switch }) refl))
