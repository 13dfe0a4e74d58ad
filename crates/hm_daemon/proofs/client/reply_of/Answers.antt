use Rattle.std.proofs.Common.{sym}
use Rattle.hm_daemon.proofs.AskLemmas.{no_reply_body}
use Rattle.hm_daemon.proofs.client.reply_of.Goals as goal

pub returns-in_default : goal.returns-in_default
returns-in_default c = sym (no_reply_body c.args.words.now c.args.body.now c.in_default.not-Reply)
