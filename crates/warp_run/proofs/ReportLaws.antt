-- The texts of clients, visits and requests, one after another.
use Rattle.std.proofs.Common.{◌≡◌, ℕ, ◌+◌, ◌<◌, ◌≤◌, List, [], ◌∷◌, ◌++◌, Option, Some, Err, codes, length, get_or, drop, drop-cons, add-one, refl, sym, ap, ◌∙◌, append_assoc}
use Rattle.std.proofs.lemmas.List.{drop_all}
use Rattle.std.specs.List.{flat_map}
use Rattle.conflict_desk.specs.declared.fault.DeskFault.{DeskFault}
use Rattle.conflict_desk.specs.declared.fault.DeskFault.TheVariants.{NoClient, NotFront, NoMemory}
use Rattle.visit_replay.specs.declared.requests.Request.{Request}
use Rattle.visit_replay.specs.Difference.{first_was, others_behind}
use Rattle.warp_run.specs.Report.{answer_words, report_line, request_line, marked_line, told_requests}
use Rattle.warp_run.specs.inside.{told_line}

-- that of one, and of those behind it
pub text_here : {A : Type 0} (text : A → List ℕ) (xs : List A) (i : ℕ) (x : A) → i < length xs → x ≡ get_or xs i x
    → text x ++ flat_map text (drop (i + 1) xs) ≡ flat_map text (drop i xs)
text_here text xs i x below is =
    let here : drop i xs ≡ x ∷ drop (i + 1) xs = rw (add-one, drop-cons xs i x below, ← is) refl in ap (flat_map text) (sym here)

pub texts_end : {A : Type 0} (text : A → List ℕ) (xs : List A) (i : ℕ) → length xs ≤ i → [] ≡ flat_map text (drop i xs)
texts_end text xs i past = ap (flat_map text) (sym (drop_all i xs past))

told_step : (former : List (Option Request)) (r : Request) (rest : List Request)
    → request_line r ++ (marked_line (codes "was") (first_was former) ++ told_requests (others_behind former) rest) ≡ told_requests former (r ∷ rest)
told_step [] r rest = refl
told_step (was ∷ former) r rest = refl

-- one that is told, and what it was
pub told_here : (former others : List (Option Request)) (requests rest : List Request) (r : Request) (now was : Option Request)
    → requests ≡ r ∷ rest → now ≡ Some r → was ≡ first_was former → others ≡ others_behind former
    → (told_line [] now ++ told_line (codes "was ") was) ++ told_requests others rest ≡ told_requests former requests
told_here former others requests rest r now was split is before behind = rw (split, is, before, behind) (append_assoc (request_line r) (told_line (codes "was ") (first_was former)) (told_requests (others_behind former) rest) ∙ told_step former r rest)

pub told_none : (former : List (Option Request)) (requests : List Request) → requests ≡ [] → [] ≡ told_requests former requests
told_none former requests none = rw none refl

-- ---- lines in the pieces in which they are put

pub conflicted : (number standing code at : List ℕ)
    → (codes "visit " ++ number) ++ (codes " " ++ (standing ++ (codes " " ++ (code ++ ((codes " at " ++ at) ++ 10 ∷ [])))))
    ≡ report_line (codes "visit" ∷ number ∷ standing ∷ code ∷ codes "at" ∷ at ∷ [])
conflicted number standing code at = simp append_assoc

pub accepted : (client number choice : List ℕ)
    → codes "decide " ++ (client ++ ((codes " " ++ number) ++ (codes " " ++ (choice ++ (codes " " ++ 111 ∷ 107 ∷ 10 ∷ [])))))
    ≡ report_line (codes "decide" ∷ client ∷ number ∷ choice ∷ codes "ok" ∷ [])
accepted client number choice = simp append_assoc

-- whatever the cause
pub refused : (client number choice : List ℕ) (fault : DeskFault)
    → codes "decide " ++ (client ++ ((codes " " ++ number) ++ (codes " " ++ (choice ++ (codes " " ++ report_line (answer_words (Err fault)))))))
    ≡ report_line (codes "decide" ∷ client ∷ number ∷ choice ∷ answer_words (Err fault))
refused client number choice NoClient = simp append_assoc
refused client number choice (NotFront front) = simp append_assoc
refused client number choice NoMemory = simp append_assoc
