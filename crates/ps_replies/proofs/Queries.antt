-- A query changes nothing of what its reply tells.
use Rattle.std.proofs.Common.{◌≡◌, ℕ, Option, Some, List, [], ◌∷◌, ◌++◌, filter, length, map, ap, sym, ◌∙◌}
use Rattle.std.specs.List.{range_with_len}
use Rattle.ps_world.specs.declared.domains.Domain.{Domain}
use Rattle.ps_world.specs.declared.known.Knowledge.{Knowledge}
use Rattle.ps_action.specs.Arcs.{is_arc}
use Rattle.ps_action.specs.Search.{answer}
use Rattle.ps_action.specs.Trees.{TreeView}
use Rattle.ps_action.specs.declared.acts.Act.{Act}
use Rattle.ps_action.specs.declared.answers.Answer.TheVariants.{Plan}
use Rattle.ps_action.specs.declared.states.ActState.{ActState}
use Rattle.ps_machine.specs.declared.inputs.Query.{Query}
use Rattle.ps_machine.specs.declared.inputs.Query.TheVariants as query
use Rattle.ps_machine.specs.declared.inputs.Input.{Input}
use Rattle.ps_machine.specs.declared.journal.Event.TheVariants as event
use Rattle.ps_machine.specs.declared.journal.Entry.{Entry}
use Rattle.ps_rules.specs.Journal.{tree_of}
use Rattle.ps_rules.specs.Known.{grounds, know}
use Rattle.ps_rules.specs.Runs.{plan, state}
use Rattle.ps_rules.proofs.Pushed.{know-push, read-push}
use Rattle.ps_replies.specs.Plans.{RepliesToQuery}

-- an entry that asks
abbrev pub ask : ℕ → Query → Entry
ask hand q = record { hand = hand; what = event.Ask q }

module _ (i : Input) (es : List Entry) (hand : ℕ) (asked : Query) where
  -- the entries with a query after them
  abbrev after : List Entry
  after = es ++ ask hand asked ∷ []

  -- what is known is the same
  pub same-known : know i after ≡ know i es
  same-known = know-push i es (ask hand asked)

  same-plan : plan after ≡ plan es
  same-plan = read-push _ _ es (ask hand asked)

  same-state : (j : ℕ) → state j after ≡ state j es
  same-state j = read-push _ _ es (ask hand asked)

  -- the tree of a plan whose acts are in these states
  abbrev tree-by : List Act → (ℕ → ActState) → TreeView
  tree-by acts states = record {
    waits = map (λ j. filter (λ k. is_arc (grounds i.domain acts) k j) (range_with_len 0 j)) (range_with_len 0 (length acts));
    states = map states (range_with_len 0 (length acts));
  }

  pub same-tree : tree_of i after ≡ tree_of i es
  same-tree = λ t. tree-by (same-plan t) (λ j. same-state j t)

  -- what its reply tells of before it is what is known after it, with the plan that was due before it and the tree after it
  pub replies-before : (d : Domain) (k : Knowledge) (acts : List Act) (tree : Option TreeView) → d ≡ i.domain → k ≡ know i after
      → (asked ≡ query.Plan → answer i.domain (know i es) i.budget ≡ Plan acts) → (asked ≡ query.Tree → tree ≡ Some (tree_of i after))
      → RepliesToQuery i es asked d k acts tree
  replies-before d k acts tree domain known due shown = record {
    domain = domain;
    known = known ∙ same-known;
    due = due;
    shown = λ is. shown is ∙ ap (λ t. Some t) same-tree;
  }
