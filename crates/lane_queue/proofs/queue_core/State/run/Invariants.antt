use Rattle.std.proofs.Common.{◌≡◌, take}
use Rattle.std.specs.Prelude.{fold}
use Rattle.lane_queue.specs.Core.{after_step, IsFifo, HasWhole}
use Rattle.lane_queue.proofs.queue_core.State.run.Given as goal

abbrev pub invariant-loop-step : goal.invariant-loop-step
invariant-loop-step l = (l.self ≡ fold after_step l.initial.self (take l.step-index l.steps)) × IsFifo l.self × HasWhole l.self
