-- The summary, by its lines.
use Rattle.std.proofs.Common.{◌≡◌, ◌∙◌, ℕ, List, [], ◌++◌, ap, append_assoc, codes, length}
use Rattle.ps_machine.specs.declared.journal.Entry.{Entry}
use Rattle.ps_gen.specs.Summary.{count_line, count_of, is_offer, is_request, is_run, is_start, summary_text}

-- a text that grows by six parts
six_parts : (t0 t1 t2 t3 t4 t5 t6 a b c d e f : List ℕ) → t0 ≡ [] → t1 ≡ t0 ++ a → t2 ≡ t1 ++ b → t3 ≡ t2 ++ c → t4 ≡ t3 ++ d → t5 ≡ t4 ++ e → t6 ≡ t5 ++ f
    → t6 ≡ a ++ (b ++ (c ++ (d ++ (e ++ f))))
six_parts t0 t1 t2 t3 t4 t5 t6 a b c d e f e0 e1 e2 e3 e4 e5 e6 = rw (e6, e5, e4, e3, e2, e1, e0) (simp append_assoc)

-- a text that grows by a line with this count, which is that one
counted : (was now name : List ℕ) (count other : ℕ) → now ≡ was ++ count_line name count → count ≡ other → now ≡ was ++ count_line name other
counted was now name count other grown same = grown ∙ ap (λ n. was ++ count_line name n) same

-- the text that grows by these lines is the summary
pub summary_is : (t0 t1 t2 t3 t4 t5 t6 : List ℕ) (carts runs acts requests offers : ℕ) (entries : List Entry)
    → t0 ≡ [] → t1 ≡ t0 ++ count_line (codes "carts") carts
    → t2 ≡ t1 ++ count_line (codes "runs") runs → runs ≡ count_of is_run entries
    → t3 ≡ t2 ++ count_line (codes "acts") acts → acts ≡ count_of is_start entries
    → t4 ≡ t3 ++ count_line (codes "requests") requests → requests ≡ count_of is_request entries
    → t5 ≡ t4 ++ count_line (codes "offers") offers → offers ≡ count_of is_offer entries
    → t6 ≡ t5 ++ count_line (codes "entries") (length entries) → t6 ≡ summary_text carts entries
unfolding summary_text
summary_is t0 t1 t2 t3 t4 t5 t6 carts runs acts requests offers entries e0 e1 e2 r e3 a e4 q e5 o e6 =
    six_parts t0 t1 t2 t3 t4 t5 t6 (count_line (codes "carts") carts) (count_line (codes "runs") (count_of is_run entries)) (count_line (codes "acts") (count_of is_start entries))
    (count_line (codes "requests") (count_of is_request entries)) (count_line (codes "offers") (count_of is_offer entries)) (count_line (codes "entries") (length entries))
    e0 e1 (counted t1 t2 (codes "runs") runs (count_of is_run entries) e2 r) (counted t2 t3 (codes "acts") acts (count_of is_start entries) e3 a)
    (counted t3 t4 (codes "requests") requests (count_of is_request entries) e4 q) (counted t4 t5 (codes "offers") offers (count_of is_offer entries) e5 o) e6
