-- What a line adds, by how it was read.
use Rattle.std.proofs.Common.{◌≡◌, ℕ, List, Result, Ok, Err, refl}
use Rattle.serde_json.specs.Data.{Data}
use Rattle.site_file.specs.Addition.{value_in, addition_of, addition_in}
use Rattle.site_file.specs.inside.{GivesMember, AddsWhatIsSaid, TakesFileLine, nothing_added}
use Rattle.site_file.specs.declared.growing.Growing.{Growing}
use Rattle.site_file.specs.declared.wrong.NoAddition.{NoAddition}
use Rattle.site_file.specs.declared.wrong.NoAddition.TheVariants.{Wrong, NoMemory}

pub text_unread : {X : Type 0} (view : X → Data) (line : List ℕ) (e : NoAddition) (old : Growing) → GivesMember {X = X} view (Err e) (value_in line) → AddsWhatIsSaid (addition_in line) old old (Err e)
text_unread view line (Wrong why) old is = rw is refl
text_unread view line NoMemory old is = tt

pub text_read : (line : List ℕ) (d e : Data) (old new : Growing) (result : Result (Unit {0}) NoAddition) → value_in line ≡ Ok d → e ≡ d → AddsWhatIsSaid (addition_of e) old new result
    → AddsWhatIsSaid (addition_in line) old new result
text_read line d e old new result is same adds = rw (is, ← same) adds

pub line_wrong : (number : ℕ) (line : List ℕ) (e : NoAddition) (old new : Growing) → AddsWhatIsSaid (addition_in line) old new (Err e) → TakesFileLine number line old new (Err (nothing_added number e))
line_wrong number line (Wrong why) old new is = (why, is, refl)
line_wrong number line NoMemory old new is = tt
