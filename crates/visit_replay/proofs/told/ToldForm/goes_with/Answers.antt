use Rattle.std.proofs.Common.{◌≡◌, List, ℕ, Bool, if◌then◌else◌, ap₂, sym, rules}
use Rattle.std.proofs.lemmas.Slice.Eq.{bytes_eq-Decides}
use Rattle.visit_replay.specs.Form.{bare}
use Rattle.visit_replay.proofs.told.ToldForm.goes_with.Goals as goal

abbrev start : Bool → List ℕ → List ℕ
start post action = if post then action else bare action

pub returns-then-eq : goal.returns-then-eq
returns-then-eq c =
    let was = c.args.self.now in
    let is = c.args.other.now in
    let post : was.post ≡ is.post = search rules in
    let action : was.action.now ≡ is.action.now = search rules in
    sym ((bytes_eq-Decides (start was.post was.action.now) (start is.post is.action.now)).1 (ap₂ start post action))
