-- What is told of an element, as the code keeps it.
use Rattle.std.specs.Prelude.{List, map}
use Rattle.std.specs.Global.{Global}
use Rattle.std.specs.Cow.{cow_str_bytes}
use Rattle.std.specs.declared.borrow.CowStr.{CowStr}
use Rattle.page_tree.specs.Tree.{Attribute, Tree}
use Rattle.page_looks.specs.Outline.{shown}
use Rattle.page_looks.specs.Sending.{sent}
use Rattle.page_looks.specs.declared.telling.Telling.{Telling}
use Rattle.page_looks.specs.declared.telling.Telling.TheVariants.{Shown, Sent}

abbrev pub told_seen : List (CowStr Global × CowStr Global) → List Attribute
told_seen told = map (λ a. (cow_str_bytes a.0, cow_str_bytes a.1)) told

abbrev pub told_by : Telling → Tree → List Attribute
told_by Shown = shown
told_by (Sent fresh all) = sent fresh.now
