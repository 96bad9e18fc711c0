-- The text of one entry, which asks, or doesn't.
use Rattle.std.proofs.Common.{◌≡◌, ℕ, ◌+◌, ◌||◌, Bool, true, false, if◌then◌else◌, Option, Some, None, is_none, List, [], ◌∷◌, ◌++◌, length, slice_get, take, refl, ap, sym, ◌∙◌, subst}
use Rattle.std.specs.Option.{option_map_or}
use Rattle.std.proofs.lemmas.Bool.{true≢false, and_parts}
use Rattle.ps_world.specs.Names.{Table}
use Rattle.ps_world.specs.declared.domains.Domain.{Domain}
use Rattle.ps_world.specs.declared.known.Knowledge.{Knowledge}
use Rattle.ps_action.specs.Search.{answer}
use Rattle.ps_action.specs.Trees.{TreeView}
use Rattle.ps_action.specs.declared.acts.Act.{Act}
use Rattle.ps_machine.specs.declared.inputs.Command.TheVariants as command
use Rattle.ps_machine.specs.declared.inputs.Line.{Line}
use Rattle.ps_machine.specs.declared.inputs.Line.TheVariants.{Good}
use Rattle.ps_machine.specs.declared.inputs.Query.{Query}
use Rattle.ps_machine.specs.declared.inputs.Query.TheVariants as query
use Rattle.ps_machine.specs.declared.inputs.Input.{Input}
use Rattle.ps_machine.specs.declared.journal.Event.{Event}
use Rattle.ps_machine.specs.declared.journal.Event.TheVariants as event
use Rattle.ps_machine.specs.declared.journal.Entry.{Entry}
use Rattle.ps_machine.specs.declared.journal.Refusal.TheVariants as refusal
use Rattle.ps_rules.specs.History.{IsHistory}
use Rattle.ps_rules.specs.Journal.{entry_text, tree_of}
use Rattle.ps_rules.specs.Known.{know}
use Rattle.ps_rules.specs.Legal.{is_accepted, is_query}
use Rattle.ps_rules.specs.Lines.{next_line}
use Rattle.ps_rules.specs.Runs.{has_run, opens}
use Rattle.ps_rules.proofs.Going.{entries_are_legal}
use Rattle.ps_rules.proofs.Kept.{fits-legal}
use Rattle.ps_rules.proofs.Pushed.{read-push}
use Rattle.ps_rules.proofs.SameThings.{same_query-decides}
use Rattle.ps_replies.specs.Plans.{RepliesTo, RepliesToQuery}
use Rattle.ps_replies.proofs.Queries.{ask, replies-before}
use Rattle.ps_session.specs.Answers.{is_ask}
use Rattle.ps_session.specs.Lines.{AsksFor, AsksLast, IsToldBy, text_at}
use Rattle.ps_session.proofs.AddedTexts.{last-split}
use Rattle.ps_session.proofs.Success.{legal-at}

-- the text at a place is that of the entry there
pub at-place : (names : Table) (i : Input) (es : List Entry) (k : ℕ) (e : Entry) → slice_get es k ≡ Some e → text_at names i es k ≡ entry_text names i (take k es) e
at-place names i es k e at = ap (λ o. option_map_or (entry_text names i (take k es)) o []) at

accepted-tree : (i : Input) (es : List Entry) (line : Option Line) → is_query query.Tree line ≡ true → is_accepted i es line ≡ true → has_run es ≡ true
accepted-tree i es (Some (Good (command.Ask q))) asks fine = by-query q ((same_query-decides query.Tree q).0 asks) fine where
  by-run : (run : Bool) → is_none (if run then None else Some refusal.NoRun) ≡ true → run ≡ true
  by-run true h = refl
  by-run false h = absurd (true≢false (sym h))

  by-query : (q : Query) → query.Tree ≡ q → is_accepted i es (Some (Good (command.Ask q))) ≡ true → has_run es ≡ true
  by-query q same fine = by-run (has_run es) (subst (λ x. is_accepted i es (Some (Good (command.Ask x))) ≡ true) (sym same) fine)
accepted-tree i es line asks fine = absurd (true≢false (sym asks))

module _ (i : Input) (es : List Entry) (k : ℕ) (e : Entry) (q : Query) (at : slice_get es k ≡ Some e) (is : e.what ≡ event.Ask q) (all : length es ≡ k + 1) where
  abbrev before : List Entry
  before = take k es

  ends-asking : es ≡ before ++ ask e.hand q ∷ []
  ends-asking =
      let same : e ≡ ask e.hand q = λ t. record { hand = e.hand; what = is t } in
      last-split es k e at all ∙ ap (λ x. before ++ x ∷ []) same

  -- the tree is asked for where a run was opened
  tree-asked : IsHistory i es → q ≡ query.Tree → has_run es ≡ true
  tree-asked history tree =
      let entry : Entry = ask e.hand q in
      let stands : IsHistory i (before ++ entry ∷ []) = subst (IsHistory i) ends-asking history in
      let legal = legal-at i [] before [] entry (entries_are_legal i (before ++ entry ∷ []) stands) refl in
      let fit = and_parts (is_query q (next_line i before)) (is_accepted i before (next_line i before)) (fits-legal i before (event.Ask q) legal) in
      let ran : has_run before ≡ true = accepted-tree i before (next_line i before) (subst (λ x. is_query x (next_line i before) ≡ true) tree fit.0) fit.1 in
      ap has_run ends-asking ∙ read-push (λ found f. found || opens f) false before entry ∙ ap (λ b. b || false) ran

  -- its reply tells of what a board shows after it
  reply-there : (d : Domain) (known : Knowledge) (plan : List Act) (tree : Option TreeView) → IsHistory i es → d ≡ i.domain → known ≡ know i es
      → tree ≡ (if has_run es then Some (tree_of i es) else None) → AsksFor i es plan k → RepliesToQuery i before q d known plan tree
  reply-there d known plan tree history domain now shown due =
      replies-before i before e.hand q d known plan tree domain (now ∙ ap (know i) ends-asking)
      (λ plans. subst (λ what. IsToldBy answer i plan before what) (is ∙ ap event.Ask plans) (due e at))
      (λ trees.
      shown ∙ ap (λ b. if b then Some (tree_of i es) else None) (tree-asked history trees)
      ∙ ap (λ xs. Some (tree_of i xs)) ends-asking)

-- what the reply to the entry at a place tells of, if it has one, where that entry is the last if it asks
pub replies-there : (i : Input) (es : List Entry) (k : ℕ) (e : Entry) (d : Domain) (known : Knowledge) (plan : List Act) (tree : Option TreeView)
    → slice_get es k ≡ Some e → AsksLast es k → IsHistory i es → d ≡ i.domain → known ≡ know i es
    → tree ≡ (if has_run es then Some (tree_of i es) else None) → AsksFor i es plan k → RepliesTo i (take k es) e.what d known plan tree
replies-there i es k e d known plan tree at last history domain now shown due = by-event e.what refl where
  by-event : (what : Event) → e.what ≡ what → RepliesTo i (take k es) what d known plan tree
  by-event (event.Ask q) is = reply-there i es k e q at is (last e at (ap is_ask is)) d known plan tree history domain now shown due
  by-event what is = tt
