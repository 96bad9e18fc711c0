-- Bytes that are written by several calls.
use Rattle.std.proofs.Common.{◌≡◌, ℕ, List, [], ◌++◌, Option, length, take, drop, refl, sym, ap, ◌∙◌, subst, append_assoc, append-nil, Err}
use Rattle.std.proofs.lemmas.List.{take-append-drop}
use Rattle.std.proofs.Math.Seq.{take-append_seam}
use Rattle.std.specs.Io.KnownBytes.{Appends, Keeps}
use Rattle.std.proofs.KnownBytes.{Appends-trans, Appends-nil, Appends-kept}
use Rattle.ps_text.specs.Outside.{AppendsPrefix, Counts, SinkView, next}
use Rattle.ps_text.specs.declared.sinks.SinkRefusal.{SinkRefusal}
use Rattle.ps_text.specs.declared.sinks.SinkRefusal.TheVariants as sink

-- the prefix of these bytes is written, and this rest is left
pub record WrotePrefix (old new : Option (List ℕ)) (bytes rest : List ℕ) : Type 0 where
  pub prefix : List ℕ
  pub whole : bytes ≡ prefix ++ rest
  pub grown : Appends old new prefix

pub WrotePrefix-none : (a : Option (List ℕ)) (bytes : List ℕ) → WrotePrefix a a bytes bytes
WrotePrefix-none a bytes = record { prefix = []; whole = refl; grown = Appends-nil a }

pub WrotePrefix-more : (a b c : Option (List ℕ)) (bytes rest : List ℕ) (n : ℕ) → WrotePrefix a b bytes rest → Appends b c (take n rest) → WrotePrefix a c bytes (drop n rest)
WrotePrefix-more a b c bytes rest n w p =
    record {
      prefix = w.prefix ++ take n rest;
      whole = w.whole ∙ ap (λ l. w.prefix ++ l) (sym (take-append-drop n rest)) ∙ sym (append_assoc w.prefix (take n rest) (drop n rest));
      grown = Appends-trans a b c w.prefix (take n rest) w.grown p;
    }

pub WrotePrefix-all : (a b : Option (List ℕ)) (bytes rest : List ℕ) → WrotePrefix a b bytes rest → rest ≡ [] → Appends a b bytes
WrotePrefix-all a b bytes rest w e = subst (Appends a b) (sym (w.whole ∙ ap (λ l. w.prefix ++ l) e ∙ append-nil w.prefix)) w.grown

pub WrotePrefix-kept : (a b c : Option (List ℕ)) (bytes rest : List ℕ) → WrotePrefix a b bytes rest → Keeps b c → AppendsPrefix a c bytes
WrotePrefix-kept a b c bytes rest w k =
    let all : take (length w.prefix) bytes ≡ w.prefix = rw w.whole (take-append_seam w.prefix rest) in
    (length w.prefix, rw all (Appends-kept a b c w.prefix w.grown k))

-- a refusal is counted from an earlier moment with the same counts
pub Counts-since : (A B : Type 0) (a b c : SinkView) (e : SinkRefusal) → b.failed ≡ a.failed → b.refused ≡ a.refused → Counts {A = A} b c (Err e) → Counts {A = B} a c (Err e)
Counts-since A B a b c sink.Failed f r h = (h.0 ∙ ap next f, h.1 ∙ ap next r)
Counts-since A B a b c sink.OutOfMemory f r h = (h.0 ∙ f, h.1 ∙ ap next r)
