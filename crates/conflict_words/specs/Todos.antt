-- What to do about a conflict, in the words of docs/CODES.md.
use Rattle.std.specs.Prelude.{ℕ, List}
use Rattle.visit_replay.specs.declared.outcome.ConflictKind.{ConflictKind}
use Rattle.visit_replay.specs.declared.outcome.ConflictKind.TheVariants.{NoPage, NoTarget, ManyTargets, NotAField, BaseChanged, NotALink, NotAForm, LogCut, Ui, Moved, Changed}
use Rattle.conflict_words.specs.declared.todos.TheConstants.{DO_K1, DO_K2, DO_K3, DO_K4, DO_K5, DO_K6, DO_K7, DO_K8, DO_K9, DO_K10, DO_K11}

unfoldable pub todo_of : ConflictKind → List ℕ
todo_of NoPage = DO_K1.now
todo_of NoTarget = DO_K2.now
todo_of ManyTargets = DO_K3.now
todo_of NotAField = DO_K4.now
todo_of BaseChanged = DO_K5.now
todo_of NotALink = DO_K6.now
todo_of NotAForm = DO_K7.now
todo_of LogCut = DO_K8.now
todo_of Ui = DO_K9.now
todo_of Moved = DO_K10.now
todo_of Changed = DO_K11.now
