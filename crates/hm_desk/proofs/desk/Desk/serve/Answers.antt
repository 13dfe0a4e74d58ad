use Rattle.std.proofs.Common.{◌∙◌, inl, inr, ap, refl}
use Rattle.std.proofs.KnownBytes.{Appends-nil}
use Rattle.hm_outside.specs.Faults.{one_more}
use Rattle.hm_desk.proofs.Desks.{not_sent, went}
use Rattle.hm_desk.proofs.desk.Desk.serve.Goals as goal

pub returns-in-Err : goal.returns-in-Err
returns-in-Err g c = (
  inl (record { order_is = c.in-Err.ensures.err.0; untaken = c.in-Err.ensures.err.1; unsent = c.in-Err.ensures.unsent }),
  c.in-Err.ensures.counted,
  record { written = Appends-nil _; sound = refl },
)

pub returns-in-Ok-send_all : goal.returns-in-Ok-send_all
returns-in-Ok-send_all g c =
    went c.link_calls_add_up.ensures c.tell.result _ _ _ _ _ _ _ _ _ _ _ _ _ _ _ _ c.in-Ok.ensures.ok c.in-Ok.ensures.unsent c.in-Ok-send_all.ensures.ok c.in-Ok-send_all.ensures.untaken
    (c.in-Ok-send_all.ensures.counted ∙ c.in-Ok.ensures.counted) c.tell.ensures.same c.tell.ensures.told

pub returns-in-Err-send_all : goal.returns-in-Err-send_all
returns-in-Err-send_all g c = (
  inr (not_sent c.link_calls_add_up.ensures _ _ _ _ _ _ _ _ _ _ _ _ _ c.in-Ok.ensures.ok c.in-Ok.ensures.unsent c.in-Err-send_all.ensures.untaken c.in-Err-send_all.ensures.err),
  c.in-Err-send_all.ensures.counted ∙ ap one_more c.in-Ok.ensures.counted,
  record { written = Appends-nil _; sound = refl },
)
