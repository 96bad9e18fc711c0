-- Entries that are a prefix of a history, and one more.
use Rattle.std.proofs.Common.{◌≡◌, ℕ, zero, suc, ◌+◌, ◌≤◌, ◌<◌, ◌&&◌, nat_lt, Bool, true, false, IsTrue, if◌then◌else◌, List, [], ◌∷◌, ◌++◌, drop, get_or, length, take, refl, ap, sym, ◌∙◌, subst, arith}
use Rattle.std.proofs.Math.Seq.{take-length}
use Rattle.std.proofs.lemmas.List.{drop_more, take_more}
use Rattle.std.proofs.lemmas.Bool.{true≢false, and_parts}
use Rattle.ps_machine.specs.declared.inputs.Input.{Input}
use Rattle.ps_machine.specs.declared.journal.CancelWhy.TheVariants as cancel
use Rattle.ps_machine.specs.declared.journal.Entry.{Entry}
use Rattle.ps_machine.specs.declared.journal.Event.TheVariants as event
use Rattle.ps_rules.specs.History.{forced, IsHistory, IsWhole}
use Rattle.ps_rules.specs.Legal.{has_hand, is_legal}
use Rattle.ps_rules.specs.Prefixes.{good_length, IsPrefix, Leads}
use Rattle.ps_rules.specs.Prefixes.Leads.{here, owed, next}
use Rattle.ps_rules.proofs.Longest.{good_length_is_longest, is_due-is}
use Rattle.ps_rules.proofs.Prefixes.{histories_lead, lead-next, lead-owed, leads-on}
use Rattle.ps_replay.specs.Judge.{due_then, may_come, Reaches}
use Rattle.ps_replay.specs.declared.judge.Judge.{Judge}

-- ---- one stretch after another

-- an entry that may come leads on
pub comes-on : (i : Input) (es due : List Entry) (e : Entry) → IsPrefix i es due → may_come i es due e ≡ true → IsPrefix i (es ++ e ∷ []) (due_then i es due e)
comes-on i es (c ∷ due) e l h =
    let same : c ≡ e = is_due-is c e h in
    leads-on i [] [] es (c ∷ due) (e ∷ []) due l (subst (λ x. Leads i es (c ∷ due) (x ∷ []) due) same (owed es due [] due c (here (es ++ c ∷ []) due)))
comes-on i es [] e l h =
    let parts = and_parts (is_legal i es e.what) (has_hand e.what e.hand) h in
    leads-on i [] [] es [] (e ∷ []) (forced i es e) l (next es [] (forced i es e) e parts.0 parts.1 (here (es ++ e ∷ []) (forced i es e)))

-- what is due after entries is determined
leads-one : (i : Input) (before due es last other : List Entry) → Leads i before due es last → Leads i before due es other → last ≡ other
leads-one i _ _ _ _ other (here before due) (here _ _) = refl
leads-one i _ _ _ last other (owed before due es _ c h) g = leads-one i (before ++ c ∷ []) due es last other h (lead-owed i before due es other c c g).1
leads-one i _ _ _ last other (next before es _ e legal hand h) g =
    leads-one i (before ++ e ∷ []) (forced i before e) es last other h (lead-next i before es other e g).2

-- nothing is due after a history
pub history-done : (i : Input) (es due : List Entry) → IsPrefix i es due → IsHistory i es → due ≡ []
history-done i es due l h = leads-one i [] [] es due [] l ((histories_lead i es).0 h)

-- entries after which nothing is due are a history
pub done-history : (i : Input) (es due : List Entry) → IsPrefix i es due → due ≡ [] → IsHistory i es
done-history i es due l e = (histories_lead i es).1 (subst (IsPrefix i es) e l)

-- ---- how many entries are good

good-stops : (i : Input) (es due rest : List Entry) (e : Entry) → may_come i es due e ≡ false → good_length i es due (e ∷ rest) ≡ 0
good-stops i es (c ∷ due) rest e h = rw h refl
good-stops i es [] rest e h = rw h refl

good-goes : (i : Input) (es due rest : List Entry) (e : Entry) → may_come i es due e ≡ true → good_length i es due (e ∷ rest) ≡ good_length i (es ++ e ∷ []) (due_then i es due e) rest + 1
good-goes i es (c ∷ due) rest e h = rw h refl
good-goes i es [] rest e h = rw h refl

-- all entries of a history are good
pub history-good : (i : Input) (es : List Entry) → IsHistory i es → length es ≤ good_length i [] [] es
history-good i es h =
    let all : length es ≤ length es = omega arith in
    (good_length_is_longest i es (length es) all).1 ([], subst (λ t. IsPrefix i t []) (sym (take-length es)) ((histories_lead i es).0 h))

-- ---- what is judged

-- where an entry may not come the journal is no whole history, and so many entries are good
pub judged-bad : (i : Input) (es due : List Entry) (e : Entry) (at : ℕ) → at < length es → good_length i [] [] es ≡ at + good_length i (take at es) due (drop at es) → get_or es at e ≡ e
    → may_come i (take at es) due e ≡ false → (¬ (IsHistory i es × IsWhole i es)) × (at ≡ good_length i [] [] es)
judged-bad i es due e at lt g same bad =
    let left : drop at es ≡ e ∷ drop (at + 1) es = drop_more es at e lt ∙ ap (λ x. x ∷ drop (at + 1) es) same in
    let none : good_length i (take at es) due (drop at es) ≡ 0 = ap (good_length i (take at es) due) left ∙ good-stops i (take at es) due (drop (at + 1) es) e bad in
    let is : at ≡ good_length i [] [] es = omega (arith, g, none) in
    (λ w. absurd (let all = history-good i es w.0 in omega (arith, all, lt, is)), is)

-- where it may come one more is good
pub judged-on : (i : Input) (es due : List Entry) (e : Entry) (at : ℕ) → at < length es → good_length i [] [] es ≡ at + good_length i (take at es) due (drop at es) → get_or es at e ≡ e
    → may_come i (take at es) due e ≡ true
    → good_length i [] [] es ≡ (at + 1) + good_length i (take (at + 1) es) (due_then i (take at es) due e) (drop (at + 1) es)
judged-on i es due e at lt g same good =
    let left : drop at es ≡ e ∷ drop (at + 1) es = drop_more es at e lt ∙ ap (λ x. x ∷ drop (at + 1) es) same in
    let more : take (at + 1) es ≡ take at es ++ e ∷ [] = take_more es at e lt ∙ ap (λ x. take at es ++ x ∷ []) same in
    let next : ℕ = good_length i (take (at + 1) es) (due_then i (take at es) due e) (drop (at + 1) es) in
    let one : good_length i (take at es) due (drop at es) ≡ next + 1 =
    ap (good_length i (take at es) due) left ∙ good-goes i (take at es) due (drop (at + 1) es) e good
    ∙ ap (λ t. good_length i t (due_then i (take at es) due e) (drop (at + 1) es) + 1) (sym more) in
    omega (arith, g, one)

-- what equal entries have come to
pub reached-as : (i : Input) (c : Judge) (t u : List Entry) → t ≡ u → Reaches i t c → Reaches i u c
reached-as i c t u e r = subst (λ x. Reaches i x c) e r
