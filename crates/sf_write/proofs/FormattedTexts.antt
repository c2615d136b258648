-- Chunks that are written to a formatter one after another, and the text that they make.
use Rattle.std.proofs.Common.{◌≡◌, ℕ, List, [], ◌∷◌, sym, ap, ◌∙◌}
use Rattle.std.proofs.Output.{has_written_append, has_written_of_eq, has_written_to_eq}
use Rattle.std.proofs.Output.{writes_in_calls_nil}
use Rattle.std.specs.List.{FoldsTo, concat}
use Rattle.std.specs.Fmt.{HasWritten, IsPlainFormatter, WritesInCalls}
use Rattle.std.specs.declared.fmt.Formatter.{Formatter}
use Rattle.sf_write.specs.Formats.{WritesChunk}
use Rattle.sf_write.specs.declared.formats.Formatting.{Formatting}

module _ {W : Type 0} (took : W → List ℕ → W → Type 0) where
  same_formatter : (p : Formatting W) (chunks : List (List ℕ)) (q : Formatting W)
      → FoldsTo (WritesChunk took) p chunks q → q.f.ghost_name ≡ p.f.ghost_name
  same_formatter p [] q h = ap (λ (x : Formatting W). x.f.ghost_name) (sym h)
  same_formatter p (x ∷ xs) q h = same_formatter h.0 xs q h.2 ∙ h.1.same_formatter

  no_chunk : (p q : Formatting W) → p ≡ q → IsPlainFormatter p.f.now
      → HasWritten took p.f.now [] q.f.now
  no_chunk p q e plain =
      has_written_to_eq took p.f.now [] p.f.now q.f.now
      (ap (λ (x : Formatting W). x.f.now) (sym e))
      (record { wrote = writes_in_calls_nil took p.f.now.writer; plain = plain })

  chunks_written : (p : Formatting W) (chunks : List (List ℕ)) (q : Formatting W)
      → FoldsTo (WritesChunk took) p chunks q → IsPlainFormatter p.f.now
      → HasWritten took p.f.now (concat chunks) q.f.now
  chunks_written p [] q h plain = no_chunk p q h plain
  chunks_written p (x ∷ xs) q h plain =
      let first = h.1.sends plain in
      has_written_append took _ x _ (concat xs) _ first (chunks_written h.0 xs q h.2 first.plain)

  -- what calls wrote, where the formatter ends as x
  pub formatted : (p q : Formatting W) (text : List ℕ) (x : Formatter W)
      → WritesInCalls (WritesChunk took) p text q
      → (p.f.ghost_name ≡ q.f.ghost_name → x ≡ q.f.now) → IsPlainFormatter p.f.now
      → HasWritten took p.f.now text x
  formatted p q text x w ends plain =
      has_written_of_eq took _ _ _ _ w.whole
      (has_written_to_eq took _ _ _ _ (ends (sym (same_formatter p w.parts q w.calls)))
      (chunks_written p w.parts q w.calls plain))
