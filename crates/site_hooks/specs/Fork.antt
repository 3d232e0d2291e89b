-- What clauses see of a Fork, and which of its two sites an address goes to.
use Rattle.std.specs.Prelude.{ℕ, List, if◌then◌else◌, nat_eq}
use Rattle.std.specs.List.{starts_with}
use Rattle.site_hooks.specs.declared.fork.Fork.{Fork}

-- the prefix that its first site has
abbrev pub fork_prefix : {A B : Type 0} → Fork A B → List ℕ
fork_prefix fork = fork.prefix

-- the site of the addresses that begin with the prefix
abbrev pub fork_inside : {A B : Type 0} → Fork A B → A
fork_inside fork = fork.inside

-- the site of all others
abbrev pub fork_outside : {A B : Type 0} → Fork A B → B
fork_outside fork = fork.outside

-- one answer where the address begins with the prefix, the other where it doesn't
abbrev pub fork_answer : {X : Type 0} → List ℕ → List ℕ → X → X → X
fork_answer prefix address inside outside = if starts_with nat_eq address prefix then inside else outside
