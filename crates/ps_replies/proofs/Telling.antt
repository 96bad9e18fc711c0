-- What a reply tells is what is to be told.
use Rattle.std.proofs.Common.{◌≡◌, ℕ, if◌then◌else◌, is_ok, Option, Some, Result, Ok, Err, OnOk, List, [], ◌∷◌, ◌++◌, append_assoc, refl, ap, sym, ◌∙◌, subst}
use Rattle.std.specs.Option.{option_map_or}
use Rattle.ps_world.specs.declared.domains.Domain.{Domain}
use Rattle.ps_world.specs.declared.known.Knowledge.{Knowledge}
use Rattle.ps_action.specs.Plans.{timed}
use Rattle.ps_action.specs.Search.{answer}
use Rattle.ps_action.specs.Trees.{tree_text, TreeView}
use Rattle.ps_action.specs.declared.acts.Act.{Act}
use Rattle.ps_machine.specs.declared.inputs.Input.{Input}
use Rattle.ps_machine.specs.declared.inputs.Query.{Query}
use Rattle.ps_machine.specs.declared.inputs.Query.TheVariants as query
use Rattle.ps_machine.specs.declared.journal.Event.{Event}
use Rattle.ps_machine.specs.declared.journal.Event.TheVariants as event
use Rattle.ps_machine.specs.declared.journal.Entry.{Entry}
use Rattle.ps_rules.specs.Journal.{entry_text, reply_lines, reply_text}
use Rattle.ps_rules.specs.Known.{know}
use Rattle.ps_journal.specs.Told.{IsTold, planned}
use Rattle.ps_journal.specs.declared.replies.Told.{Told}
use Rattle.ps_machine.specs.Texts.{entry_line}
use Rattle.ps_world.specs.Names.{Table}
use Rattle.ps_replies.specs.Plans.{RepliesTo, RepliesToQuery, told_of}

module _ (i : Input) (es : List Entry) (d : Domain) (k : Knowledge) (plan : List Act) (tree : Option TreeView) where
  pub told-so : (q : Query) → RepliesToQuery i es q d k plan tree → IsTold i es (event.Ask q) (told_of d k plan tree q)
  told-so query.Plan r = record {
    steps = ap (λ dd. timed dd k plan) r.domain ∙ ap (λ kk. timed i.domain kk plan) r.known
        ∙ sym (ap (planned i.domain (know i es)) (r.due refl));
    tree = refl;
  }
  told-so query.Tree r = record { steps = refl; tree = ap (λ t. option_map_or tree_text t []) (r.shown refl) }
  told-so q r = record { steps = refl; tree = refl }

  -- the text of an entry that asks
  pub asked-text : (names : Table) (e : Entry) (q : Query) (told : Told) (text : List ℕ) → e.what ≡ event.Ask q → RepliesTo i es e.what d k plan tree
      → told ≡ told_of d k plan tree q
      → ((j : Input) (xs : List Entry) → d ≡ j.domain → k ≡ know j xs → IsTold j xs e.what told → text ≡ entry_text names j xs e)
      → text ≡ entry_text names i es e
  asked-text names e q told text is r same given =
      let replies : RepliesToQuery i es q d k plan tree = subst (λ what. RepliesTo i es what d k plan tree) is r in
      given i es replies.domain replies.known
      (subst (λ what. IsTold i es what told) (sym is) (subst (IsTold i es (event.Ask q)) (sym same) (told-so q replies)))

-- ---- an entry that asks nothing

no-replies : (names : Table) (i : Input) (es : List Entry) (e : Event) → ((q : Query) → e ≡ event.Ask q → ⊥) → reply_lines names i es e ≡ []
no-replies names i es (event.Ask q) other = absurd (other q refl)
no-replies names i es e other = refl

pub line-added : (names : Table) (i : Input) (es : List Entry) (e : Entry) (old mid new : List ℕ) → ((q : Query) → e.what ≡ event.Ask q → ⊥)
    → mid ≡ old ++ entry_line names e → new ≡ mid ++ 10 ∷ [] → new ≡ old ++ entry_text names i es e
line-added names i es e old mid new other line ended =
    ended ∙ ap (λ text. text ++ 10 ∷ []) line ∙ append_assoc old (entry_line names e) (10 ∷ [])
    ∙ ap (λ lines. old ++ (entry_line names e ++ 10 ∷ reply_text lines)) (sym (no-replies names i es e.what other))

-- where a call answers Ok, what it adds is there
pub on-ok : {A B : Type 0} (r : Result A B) (old text due new : List ℕ) → text ≡ due → new ≡ (if is_ok r then old ++ text else old) → OnOk r (new ≡ old ++ due)
on-ok (Ok a) old text due new is h = h ∙ ap (λ t. old ++ t) is
on-ok (Err b) old text due new is h = tt
