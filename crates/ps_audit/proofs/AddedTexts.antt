-- The text of entries, one after another.
use Rattle.std.proofs.Common.{◌≡◌, ℕ, ◌+◌, ◌<◌, ◌≤◌, List, [], ◌∷◌, ◌++◌, drop, get_or, length, take, ap, sym, ◌∙◌, append_assoc, append-nil}
use Rattle.std.proofs.lemmas.List.{at_drop_all, drop_more, take_more}
use Rattle.ps_world.specs.Names.{Table}
use Rattle.ps_machine.specs.declared.inputs.Input.{Input}
use Rattle.ps_machine.specs.declared.journal.Entry.{Entry}
use Rattle.ps_rules.specs.Journal.{entry_text, text_after}
use Rattle.ps_replay.specs.declared.verdict.Verdict.{Verdict}
use Rattle.ps_replay.specs.declared.verdict.Verdict.TheVariants.{Legal, Illegal}
use Rattle.ps_audit.specs.Texts.{AddsIfLegal}

module _ (names : Table) (i : Input) (es : List Entry) (old : List ℕ) where
  -- the text of so many entries was added to this one
  abbrev pub HasText : ℕ → List ℕ → Type 0
  HasText at now = now ++ text_after names i (take at es) (drop at es) ≡ old ++ text_after names i [] es

  -- the text of the next entry is added
  pub text-more : (at : ℕ) (e : Entry) (now new : List ℕ) → at < length es → get_or es at e ≡ e → HasText at now → new ≡ now ++ entry_text names i (take at es) e → HasText (at + 1) new
  text-more at e now new lt same so_far added =
      let left : drop at es ≡ e ∷ drop (at + 1) es = drop_more es at e lt ∙ ap (λ x. x ∷ drop (at + 1) es) same in
      let more : take (at + 1) es ≡ take at es ++ e ∷ [] = take_more es at e lt ∙ ap (λ x. take at es ++ x ∷ []) same in
      let text : List ℕ = entry_text names i (take at es) e in
      let rest : List ℕ = text_after names i (take at es ++ e ∷ []) (drop (at + 1) es) in
      (λ t. added t ++ text_after names i (more t) (drop (at + 1) es)) ∙ append_assoc now text rest
      ∙ ap (λ xs. now ++ text_after names i (take at es) xs) (sym left) ∙ so_far

  -- the text of all entries was added
  pub text-done : (at : ℕ) (now : List ℕ) → length es ≤ at → HasText at now → now ≡ old ++ text_after names i [] es
  text-done at now past so_far =
      sym (append-nil now) ∙ ap (λ xs. now ++ text_after names i (take at es) xs) (sym (at_drop_all (λ x. x) es at past)) ∙ so_far

-- what is added after a text that was added is added with it
pub adds-after : (head text old mid new : List ℕ) (v : Verdict) → mid ≡ old ++ head → AddsIfLegal text mid new v → AddsIfLegal (head ++ text) old new v
adds-after head text old mid new Legal e h = h ∙ ap (λ t. t ++ text) e ∙ append_assoc old head text
adds-after head text old mid new (Illegal at) e h = tt
