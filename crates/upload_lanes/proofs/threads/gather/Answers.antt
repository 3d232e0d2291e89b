use Rattle.upload_lanes.proofs.threads.gather.Goals as goal

pub returns-in-Ok-clause-ok : goal.returns-in-Ok-clause-ok
returns-in-Ok-clause-ok g c = (c.new.result, c.new.ensures.clients, c.in-Ok.ensures.ok)
