-- What the code of a conflict means, in the words of docs/CODES.md.
use Rattle.std.specs.Prelude.{ℕ, List}
use Rattle.visit_replay.specs.declared.outcome.ConflictKind.{ConflictKind}
use Rattle.visit_replay.specs.declared.outcome.ConflictKind.TheVariants.{NoPage, NoTarget, ManyTargets, NotAField, BaseChanged, NotALink, NotAForm, LogCut, Ui, Moved, Changed}
use Rattle.conflict_words.specs.declared.meanings.TheConstants.{K1, K2, K3, K4, K5, K6, K7, K8, K9, K10, K11}

unfoldable pub meaning_of : ConflictKind → List ℕ
meaning_of NoPage = K1.now
meaning_of NoTarget = K2.now
meaning_of ManyTargets = K3.now
meaning_of NotAField = K4.now
meaning_of BaseChanged = K5.now
meaning_of NotALink = K6.now
meaning_of NotAForm = K7.now
meaning_of LogCut = K8.now
meaning_of Ui = K9.now
meaning_of Moved = K10.now
meaning_of Changed = K11.now
