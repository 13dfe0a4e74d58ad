-- The first words of lines, and the words for protocols.
use Rattle.std.specs.Prelude.{ℕ, if◌then◌else◌, List, bytes_eq, codes, Option, Some, None}
use Rattle.hm_base.specs.declared.node.GroupKind.{GroupKind}
use Rattle.hm_base.specs.declared.node.GroupKind.TheVariants as kind
use Rattle.hm_schedule.specs.declared.keyword.Keyword.{Keyword}
use Rattle.hm_schedule.specs.declared.keyword.Keyword.TheVariants as keyword

abbrev pub keyword_text : Keyword → List ℕ
keyword_text keyword.Group = codes "group"
keyword_text keyword.Table = codes "table"
keyword_text keyword.Life = codes "life"
keyword_text keyword.Log = codes "log"
keyword_text keyword.Write = codes "write"
keyword_text keyword.Read = codes "read"
keyword_text keyword.Resend = codes "resend"
keyword_text keyword.Deliver = codes "deliver"
keyword_text keyword.Next = codes "next"
keyword_text keyword.Drop = codes "drop"
keyword_text keyword.Tick = codes "tick"
keyword_text keyword.Stop = codes "stop"
keyword_text keyword.Remove = codes "remove"
keyword_text keyword.Timeout = codes "timeout"
keyword_text keyword.Retire = codes "retire"
keyword_text keyword.Start = codes "start"

abbrev pub opening_named : List ℕ → Option Keyword
opening_named word =
    if bytes_eq word (codes "group") then Some keyword.Group
    else if bytes_eq word (codes "table") then Some keyword.Table
    else if bytes_eq word (codes "life") then Some keyword.Life
    else if bytes_eq word (codes "log") then Some keyword.Log
    else None

abbrev pub rarely_named : List ℕ → Option Keyword
rarely_named word =
    if bytes_eq word (codes "tick") then Some keyword.Tick
    else if bytes_eq word (codes "stop") then Some keyword.Stop
    else if bytes_eq word (codes "remove") then Some keyword.Remove
    else if bytes_eq word (codes "timeout") then Some keyword.Timeout
    else if bytes_eq word (codes "retire") then Some keyword.Retire
    else if bytes_eq word (codes "start") then Some keyword.Start
    else opening_named word

-- the keyword that is this word
abbrev pub named : List ℕ → Option Keyword
named word =
    if bytes_eq word (codes "next") then Some keyword.Next
    else if bytes_eq word (codes "write") then Some keyword.Write
    else if bytes_eq word (codes "read") then Some keyword.Read
    else if bytes_eq word (codes "resend") then Some keyword.Resend
    else if bytes_eq word (codes "deliver") then Some keyword.Deliver
    else if bytes_eq word (codes "drop") then Some keyword.Drop
    else rarely_named word

abbrev pub kind_text : GroupKind → List ℕ
kind_text kind.Chain = codes "chain"
kind_text kind.Primary = codes "primary"
kind_text kind.Vr = codes "vr"

-- the protocol that is this word
abbrev pub kind_named : List ℕ → Option GroupKind
kind_named word =
    if bytes_eq word (codes "chain") then Some kind.Chain
    else if bytes_eq word (codes "primary") then Some kind.Primary
    else if bytes_eq word (codes "vr") then Some kind.Vr
    else None
