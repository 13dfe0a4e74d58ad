use Rattle.std.proofs.Common.{◌∙◌, ap}
use Rattle.hm_wire.specs.Reading.{packet_of}
use Rattle.hm_daemon.proofs.PostLemmas.{read_dst, has_head}
use Rattle.hm_daemon.proofs.posts.destination.Goals as goal

pub returns-in-Ok : goal.returns-in-Ok
returns-in-Ok c m lawful same = read_dst c.args.spelled.now m _ (ap packet_of same ∙ c.spelling_is_read_back.ensures m lawful) c.in-Ok.ensures.given

pub returns-in-Err : goal.returns-in-Err
returns-in-Err c m lawful same = absurd (has_head c.args.spelled.now m _ (ap packet_of same ∙ c.spelling_is_read_back.ensures m lawful) c.in-Err.ensures.given)
