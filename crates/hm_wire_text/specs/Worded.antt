-- What is read as text: behind a text, the words of a body, or a packet's text.
use Rattle.std.specs.Prelude.{◌≡◌, ℕ, List, [], ◌∷◌, ◌++◌, Result, Ok, Err, Some, codes, decimal, flat_map}
use Rattle.hm_base.specs.Spellings.{spaced, stamp_text, value_text, act_text, entry_words, entries_words}
use Rattle.hm_base.specs.declared.entry.Entry.{Entry}
use Rattle.hm_base.specs.declared.entry.Act.{Act}
use Rattle.hm_packet.specs.declared.body.Body.{Body}
use Rattle.hm_packet.specs.Messages.{Message}
use Rattle.hm_packet.specs.Texts.{body_words, packet_text}
use Rattle.hm_wire.specs.declared.bodies.FeedFields.{FeedFields}
use Rattle.hm_wire.specs.declared.fault.Fault.{Fault}
use Rattle.hm_wire_text.specs.declared.pages.EntryHead.{EntryHead}
use Rattle.hm_wire.specs.declared.malformed.Malformed.{Malformed}
use Rattle.hm_wire.specs.Packets.{spelling, first_fault, HasSpelling}
use Rattle.hm_wire.specs.Grammar.Size.{U32, U64}
use Rattle.hm_wire.specs.Reading.{◌>>=◌, Part, stamp_at, number_at}

abbrev pub worded : List ℕ → Part Body → Part (List ℕ)
worded text read = read >>= λ b. Ok (text ++ spaced (body_words b.0), b.1)

abbrev pub entry_worded : List ℕ → Part Entry → Part (List ℕ)
entry_worded text read = read >>= λ e. Ok (text ++ spaced (entry_words e.0), e.1)

abbrev pub value_worded : List ℕ → Part (List ℕ) → Part (List ℕ)
value_worded text read = read >>= λ v. Ok (text ++ spaced (value_text v.0 ∷ []), v.1)

abbrev pub act_worded : List ℕ → Part Act → Part (List ℕ)
act_worded text read = read >>= λ a. Ok (text ++ spaced (act_text a.0 ∷ []), a.1)

-- the words of an entry before its act
abbrev pub entry_head_words : EntryHead → List (List ℕ)
entry_head_words h = stamp_text h.stamp ∷ decimal h.client ∷ decimal h.request ∷ decimal h.object ∷ []

-- entries without their number
abbrev pub many_worded : List ℕ → Part (List Entry) → Part (List ℕ)
many_worded text read = read >>= λ es. Ok (text ++ spaced (flat_map entry_words es.0), es.1)

abbrev pub entries_worded : List ℕ → Part (List Entry) → Part (List ℕ)
entries_worded text read = read >>= λ es. Ok (text ++ spaced (entries_words es.0), es.1)

-- the words of a feed before its entries
abbrev pub feed_head_words : FeedFields → List (List ℕ)
feed_head_words h = codes "feed" ∷ decimal h.view ∷ decimal h.start ∷ decimal h.first ∷ decimal h.commit ∷ []

abbrev pub told : List ℕ → Result Message Fault → Result (List ℕ) Fault
told text read = read >>= λ m. Ok (text ++ packet_text m)

-- the text of the packet that the bytes spell stands behind the text, or their first fault was found
abbrev pub Tells : {A : Type 0} → Result A Malformed → List ℕ → List ℕ → List ℕ → Type 0
Tells (Ok x) bytes text out = (m : Message) × HasSpelling m × (spelling m ≡ bytes) × (out ≡ text ++ packet_text m)
Tells (Err fault) bytes text out = (first_fault bytes ≡ Some fault) × (out ≡ text)

-- ---- read before the words of it are written

-- what an entry has before its act
unfoldable pub entry_head_at : List ℕ → Part EntryHead
entry_head_at bytes = do
  stamp ← stamp_at bytes
  client ← number_at U32 stamp.1
  request ← number_at U64 client.1
  object ← number_at U32 request.1
  Ok (record { stamp = stamp.0; client = client.0; request = request.0; object = object.0 }, object.1)

-- what a feed has before its entries
unfoldable pub feed_head_at : List ℕ → Part FeedFields
feed_head_at bytes = do
  view ← number_at U32 bytes
  start ← number_at U32 view.1
  first ← number_at U32 start.1
  commit ← number_at U32 first.1
  Ok (record { view = view.0; start = start.0; first = first.0; commit = commit.0 }, commit.1)
