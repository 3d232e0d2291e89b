-- The uploads that words name, word by word, and what the file of a name begins with.
use Rattle.std.proofs.Common.{◌≡◌, ℕ, List, [], ◌∷◌, ◌++◌, Option, Result, Ok, Err, refl, sym, subst, append-nil, append_assoc}
use Rattle.std.specs.declared.io.Error.{Error}
use Rattle.byte_streams.specs.Answers.{Answer}
use Rattle.upload_reader.specs.Upload.{UploadState}
use Rattle.replay_folder.specs.Ends.{no_greeting}
use Rattle.replay_folder.specs.Names.{NamesWord, NamesAll}
use Rattle.replay_folder.specs.inside.{GreetsSource, GreetsNamed}
use Rattle.replay_folder.specs.declared.ends.UploadEnd.{UploadEnd}
use Rattle.replay_folder.specs.declared.names.Named.{Named}
use Rattle.replay_folder.specs.declared.names.Named.TheVariants.{File}

module _ (listed : List ℕ → Result (Option (List (List ℕ))) Error → Type 0) where
  -- with what the words that are left name, it comes to what all of them name
  abbrev pub NamedSoFar : List (List ℕ) → List (List ℕ) → List Named → Type 0
  NamedSoFar all left named = (rest : List Named) → NamesAll listed left rest → NamesAll listed all (named ++ rest)

  pub none_named : (all : List (List ℕ)) → NamedSoFar all all []
  none_named all = λ rest names. names

  pub word_named : (all before left : List (List ℕ)) (word : List ℕ) (named own now : List Named) → before ≡ word ∷ left → now ≡ named ++ own → NamesWord listed word own
      → NamedSoFar all before named → NamedSoFar all left now
  word_named all before left word named own now is longer names so_far rest more =
      let here : NamesAll listed before (own ++ rest) = subst (λ words. NamesAll listed words (own ++ rest)) (sym is) (own, rest, refl, names, more) in
      subst (λ n. NamesAll listed all (n ++ rest)) (sym longer) (subst (NamesAll listed all) (sym (append_assoc named own rest)) (so_far (own ++ rest) here))

  pub all_named : (all left : List (List ℕ)) (named : List Named) → left ≡ [] → NamedSoFar all left named → NamesAll listed all named
  all_named all left named none so_far = subst (NamesAll listed all) (append-nil named) (so_far [] (subst (λ words. NamesAll listed words []) (sym none) refl))

module _ {R : Type 0} (was_read : R → R → List Answer → Type 0) (opened : List ℕ → Result R Error → Type 0) where
  -- what a source begins with, its file begins with
  pub path_greets : (path : List ℕ) (first : R) → opened path (Ok first) → (said : Result (UploadState R) UploadEnd) → GreetsSource was_read first said → GreetsNamed was_read opened (File path) said
  path_greets path first opens (Ok upload) (is, greeted) = (path, refl, subst (λ file. opened path (Ok file)) (sym is) opens, greeted)
  path_greets path first opens (Err end) (fault, is, refuses) = (no_greeting first fault, sym is, refl, rw is refl, (opens, refuses))
