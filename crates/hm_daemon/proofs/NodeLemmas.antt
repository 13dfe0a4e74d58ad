-- How a switch's daemon ends once its worker has ended.
use Rattle.std.proofs.Common.{◌≡◌, List, [], ◌∷◌, length, get_or, set, refl, sym, ap, subst, ◌∙◌, arith}
use Rattle.hm_packet.specs.Routing.{Routing}
use Rattle.hm_rules.specs.Service.{Service, served, service_route}
use Rattle.hm_shared.specs.BookState.{BookState}
use Rattle.hm_shared.specs.Books.{Holds}
use Rattle.hm_worker.specs.declared.worker_end.WorkerEnd.{WorkerEnd}
use Rattle.hm_worker.specs.declared.worker_end.WorkerEnd.TheVariants as end
use Rattle.hm_daemon.specs.Asks.{Putting}
use Rattle.hm_daemon.specs.Nodes.{Standing, OfOne, PutsJournal, Runs, setup_of, status_of}
use Rattle.hm_daemon.specs.declared.words.SwitchWords.{SwitchWords}

-- the book is that of the words' switch
pub opened : (w : SwitchWords) (book : BookState) (route : Routing) (service : Service) → route ≡ service_route service → service ≡ served w.kind w.size
    → Holds book (record { id = w.id; stages = w.stages; bits = w.bits; life = w.life; route = route }) [] → Holds book (setup_of w) []
opened w book route service of_route of_service holds =
    subst (λ (r : Routing). Holds book (record { id = w.id; stages = w.stages; bits = w.bits; life = w.life; route = r }) []) (of_route ∙ ap service_route of_service) holds

-- all of the journal was put
pub ran : (w : SwitchWords) (old new : Standing) (k : Putting) → PutsJournal w old new k → Runs (status_of new.ended) w old new k
ran w old new k puts = by_end new.ended refl
  where
    by_end : (e : WorkerEnd) → new.ended ≡ e → Runs (status_of e) w old new k
    by_end end.Ended is = (ap status_of (sym is), puts)
    by_end end.TurnsSpent is = (ap status_of (sym is), puts)
    by_end end.SwitchSpent is = (ap status_of (sym is), puts)
    by_end end.LinkFault is = (ap status_of (sym is), puts)

-- the only worker was at work
pub of_one : {A : Type 0} (P : A → A → Type 0) (olds : List A) (other new : A) → length olds ≡ 1 → P (get_or olds 0 other) new → OfOne P olds (set olds 0 new)
of_one P [] other new one holds = absurd (omega (arith, one))
of_one P (x ∷ []) other new one holds = holds
of_one P (x ∷ y ∷ rest) other new one holds = absurd (omega (arith, one))
