-- What the answer of a reading says of the paths that there are.
use Rattle.std.proofs.Common.{◌≡◌, ◌≢◌, ℕ, ◌==◌, ◌↔◌, Bool, false, IsTrue, List, [], ◌∷◌, map, drop, Result, Ok, Err, IfErr, Some, None, refl, sym, ◌∙◌, ap}
use Rattle.std.proofs.lemmas.Bool.{false_from_ne_true, eqb-true}
use Rattle.std.specs.Str.{bytes_eq}
use Rattle.std.proofs.lemmas.Slice.Eq.{bytes_eq-Decides}
use Rattle.xpath_child.specs.Path.{Step, IsPath, path_text}
use Rattle.page_tree.specs.FirstFault.{unless, ok_unless}
use Rattle.xpath_child.specs.Fault.{fault_at, first_step_fault, written_steps, path_fault, step_in, path_in, GivesPath}
use Rattle.xpath_child.specs.declared.fault.PathFault.{PathFault}
use Rattle.xpath_child.specs.declared.fault.PathFaultKind.TheVariants.{NotAbsolute, NoMemory}
use Rattle.xpath_child.proofs.RealFaults.{path_fault_real}
use Rattle.xpath_child.proofs.Complete.{path_complete}

pub no_slash : (text : List ℕ) → ((rest : List ℕ) → text ≢ 47 ∷ rest) → path_fault text ≡ Some (record { at = 0; kind = NotAbsolute })
no_slash [] none = refl
no_slash (c ∷ rest) none =
    let other : (c == 47) ≡ false = false_from_ne_true _ (λ h. none rest (ap (λ b. b ∷ rest) (eqb-true c 47 h))) in
    ap (λ b. unless b (fault_at 0 NotAbsolute) (first_step_fault 0 1 (written_steps rest))) other

-- the texts of two paths tell whether they are the same
pub texts_tell : (p q : List Step) (t u : List ℕ) (told : Bool) → IsPath p → IsPath q → path_text p ≡ t → path_text q ≡ u → told ≡ bytes_eq t u → IsTrue told ↔ (p ≡ q)
texts_tell p q t u told first other written other_written is = (
  λ yes.
      let same = written ∙ (bytes_eq-Decides t u).0 (sym is ∙ yes) ∙ sym other_written in
      let read = sym (path_complete p first) ∙ ap path_in same ∙ path_complete q other in
      cc,
  λ same. is ∙ (bytes_eq-Decides t u).1 (sym written ∙ ap path_text same ∙ other_written),
)

-- the text of a path tells whether another text is its own
pub text_tells : (p : List Step) (t u : List ℕ) (told : Bool) → IsPath p → path_text p ≡ t → told ≡ bytes_eq t u → (IsTrue told ↔ (path_text p ≡ u)) × (IsTrue told → path_in u ≡ Ok p)
text_tells p t u told path written is =
    let same : IsTrue told → path_text p ≡ u = λ yes. written ∙ (bytes_eq-Decides t u).0 (sym is ∙ yes) in
    ((same, λ own. is ∙ (bytes_eq-Decides t u).1 (sym written ∙ own)), λ yes. ap path_in (sym (same yes)) ∙ path_complete p path)

module _ (text : List ℕ) where
  pub from_none : path_fault text ≡ None → path_in text ≡ Ok (map step_in (written_steps (drop 1 text)))
  from_none none = ap (λ f. ok_unless f (map step_in (written_steps (drop 1 text)))) none

  pub from_some : (fault : PathFault) → path_fault text ≡ Some fault → GivesPath (λ path. path) (Err fault) (path_in text)
  from_some fault some =
      let is = ap (λ f. ok_unless f (map step_in (written_steps (drop 1 text)))) some in
      (λ memory. absurd (path_fault_real text fault is memory), λ real. is)

  pub only : (read other : List Step) → path_in text ≡ Ok read → IsPath other → path_text other ≡ text → other ≡ read
  only read other e h is = let same = sym (path_complete other h) ∙ ap path_in is ∙ e in cc

  pub refused : (given : Result (List Step) PathFault) → GivesPath (λ path. path) given (path_in text) → IfErr given (λ e. e.kind ≢ NoMemory → (path : List Step) → IsPath path → path_text path ≢ text)
  refused (Ok read) gives = tt
  refused (Err fault) gives = λ real path h is. let same = sym (path_complete path h) ∙ ap path_in is ∙ gives.1 real in cc
