use Rattle.hm_codec.proofs.parts.push_tagged_value.Goals as goal

pub returns : goal.returns
returns g c = (c.push.new.self, c.push.ensures, c.push_value.ensures)
