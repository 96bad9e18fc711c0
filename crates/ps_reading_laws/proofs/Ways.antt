-- What is wanted after marks, one mark after another.
use Rattle.std.proofs.Common.{◌≡◌, List, [], ◌∷◌, ◌++◌, Option, None, Some, unwrap_or, sym, ◌∙◌, ap, subst, inl, inr}
use Rattle.std.specs.Option.{option_and_then}
use Rattle.ps_grammar.specs.Fronts.{IsFront}
use Rattle.ps_grammar.specs.Rules.{step}
use Rattle.ps_grammar.specs.Shape.{Derives, next_wanted, run, wanted_from}
use Rattle.ps_grammar.specs.declared.marks.Mark.{Mark}
use Rattle.ps_grammar.specs.declared.symbols.Symbol.{Symbol}
use Rattle.ps_grammar.proofs.Runs.{run_of_front}
use Rattle.ps_reading_laws.proofs.Cases.{found}

-- from what is wanted first, these marks lead to what is wanted last
pub data Leads : List Symbol → List Mark → List Symbol → Type 0 where
  no_mark : (st : List Symbol) → Leads st [] st
  one_mark : (st next end : List Symbol) (m : Mark) (ms : List Mark) → next_wanted st m ≡ Some next → Leads next ms end → Leads st (m ∷ ms) end

leads_on : (ms : List Mark) (st end : List Symbol) → run st ms ≡ Some end → Leads st ms end
leads_on [] st end e =
    let same : st ≡ end = cc in
    subst (λ (x : List Symbol). Leads st [] x) same (no_mark st)
leads_on (m ∷ ms) st end e =
    elim (found (next_wanted st m)) [
      | inl next ↦ one_mark st next.0 end m ms next.1 (leads_on ms next.0 end (sym (ap (λ o. option_and_then (λ now. run now ms) o) next.1) ∙ e))
      | inr none ↦
          let clash : ◌≡◌ {A = Option (List Symbol)} None (Some end) = sym (ap (λ o. option_and_then (λ now. run now ms) o) none) ∙ e in
          absurd (cc)
    ]

-- marks that begin what is derived lead to what is wanted after them
pub front_leads : (start : List Symbol) (ms : List Mark) → IsFront (Derives start) ms → Leads start ms (wanted_from start ms)
front_leads start ms front =
    elim (found (run start ms)) [
      | inl st ↦ subst (λ (x : List Symbol). Leads start ms x) (sym (ap (λ o. unwrap_or o []) st.1)) (leads_on ms start st.0 st.1)
      | inr none ↦ absurd (run_of_front start ms front none)
    ]

-- a mark leads from the first symbol that is wanted
pub first_leads : (s : Symbol) (st : List Symbol) (m : Mark) (next : List Symbol) → next_wanted (s ∷ st) m ≡ Some next → (new : List Symbol) × (step s m ≡ Some new) × (next ≡ new ++ st)
first_leads s st m next e =
    elim (found (step s m)) [
      | inl new ↦
          let here : ◌≡◌ {A = Option (List Symbol)} (Some (new.0 ++ st)) (Some next) = sym (ap (λ o. option_and_then (λ new. Some (new ++ st)) o) new.1) ∙ e in
          (new.0, new.1, cc)
      | inr none ↦
          let clash : ◌≡◌ {A = Option (List Symbol)} None (Some next) = sym (ap (λ o. option_and_then (λ new. Some (new ++ st)) o) none) ∙ e in
          absurd (cc)
    ]
