use Rattle.replay_folder.proofs.NamesLaws.{none_named, word_named, all_named}
use Rattle.replay_folder.proofs.names.name_uploads.Goals as goal

pub loop-word-init : goal.loop-word-init
loop-word-init g c = rw c.new-all.ensures.items (none_named (g.O.OpensUploads.listed c.args.opener.now) c.args.words)

pub loop-word-preserved : goal.loop-word-preserved
loop-word-preserved g c =
    let (own, longer, names) = c.in_ok-add_word.ensures in
    word_named (g.O.OpensUploads.listed c.args.opener.now) c.args.words c.loop-word.words c.next.new.self c.in-Some.word c.loop-word.all.items own c.add_word.new.all.items
    c.in-Some.ensures.value longer (rw c.as_str.ensures at names) c.loop-word.invariant

pub returns : goal.returns
returns g c =
    all_named (g.O.OpensUploads.listed c.args.opener.now) c.args.words c.loop-word.words c.loop-word.all.items c.in_default.ensures.value c.loop-word.invariant
