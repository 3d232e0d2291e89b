-- A value stands for one page at the most, so that a function finds it.
use Rattle.std.proofs.Common.{◌≡◌, ◌≢◌, Some, None, Result, Ok, Err, refl, ap}
use Rattle.std.specs.Result.{result_ok}
use Rattle.serde_json.specs.Data.{Data}
use Rattle.page_tree.specs.Tree.{Tree}
use Rattle.page_tree.specs.Limits.{max_depth}
use Rattle.page_tree.specs.Value.{IsPageOf, tree_in}
use Rattle.page_tree.specs.Fault.{fault_of_value, page_or_fault, page_in, GivesPage}
use Rattle.page_tree.specs.declared.fault.PageFault.{PageFault}
use Rattle.page_tree.specs.declared.fault.PageFault.TheVariants.{NoMemory}
use Rattle.page_tree.proofs.ValueLaws.{stands_once, sound, complete}

pub page_once : (d : Data) (t u : Tree) → IsPageOf d t → IsPageOf d u → u ≡ t
page_once d t u is also = stands_once u t d also.stands is.stands

-- ---- the function finds just the page that the value stands for

pub page_given : (d : Data) (t : Tree) → IsPageOf d t → page_or_fault d ≡ Ok t
unfolding page_or_fault
page_given d t page =
    let none = complete d t page in
    rw none (ap Ok (page_once d t (tree_in max_depth d) page (sound d none)))

pub page_found : (d : Data) (t : Tree) → IsPageOf d t → page_in d ≡ Some t
unfolding page_in
page_found d t page = ap result_ok (page_given d t page)

pub page_missed : (d : Data) (e : PageFault) → fault_of_value d ≡ Some e → (page_in d ≡ None) × (page_or_fault d ≡ Err e) × ((t : Tree) → IsPageOf d t → ⊥)
unfolding page_in page_or_fault
page_missed d e is = (rw is refl, rw is refl, λ t page. let none = complete d t page in cc)

pub fails_unless : (e : PageFault) (said : Result Tree PageFault) → (e ≢ NoMemory → said ≡ Err e) → GivesPage (Err e) said
fails_unless NoMemory said real = tt
fails_unless e said real = real (λ is. cc)
