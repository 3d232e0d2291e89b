-- The first lines of bytes, cut off one after another.
use Rattle.std.proofs.Common.{◌≡◌, ℕ, ◌+◌, ◌-◌, ◌≤◌, List, [], ◌∷◌, ◌++◌, length, take, refl, sym, ap, ◌∙◌, arith, append_assoc, append-nil, length-append, take_at, take_all}
use Rattle.std.proofs.lemmas.Grind.{flat_map-append}
use Rattle.byte_streams.specs.CompleteLines.{complete_lines}
use Rattle.upload_reader.specs.Front.{bytes_of_lines}

-- so many lines are cut off, and this is left
pub record IsCutOff (bytes rest : List ℕ) (count : ℕ) : Type 0 where
  pub front : List (List ℕ)
  pub lines : complete_lines bytes ≡ front ++ complete_lines rest
  pub all : bytes ≡ bytes_of_lines front ++ rest
  pub many : length front ≡ count

pub none_cut : (bytes : List ℕ) → IsCutOff bytes bytes 0
none_cut bytes = record { front = []; lines = refl; all = refl; many = refl }

pub one_cut : (bytes rest more line : List ℕ) (count : ℕ) → IsCutOff bytes rest count → complete_lines rest ≡ line ∷ complete_lines more → rest ≡ line ++ (10 ∷ more)
    → IsCutOff bytes more (count + 1)
one_cut bytes rest more line count cut first is = record {
  front = cut.front ++ line ∷ [];
  lines = cut.lines ∙ ap (λ ls. cut.front ++ ls) first ∙ sym (append_assoc cut.front (line ∷ []) (complete_lines more));
  all = cut.all ∙ ap (λ r. bytes_of_lines cut.front ++ r) (is ∙ sym (append_assoc line (10 ∷ []) more)) ∙ sym (append_assoc (bytes_of_lines cut.front) (line ++ 10 ∷ []) more)
      ∙ ap (λ front. front ++ more) (ap (λ one. bytes_of_lines cut.front ++ one) (sym (append-nil (line ++ 10 ∷ []))) ∙ sym (flat_map-append (λ l. l ++ 10 ∷ []) cut.front (line ∷ [])));
  many = length-append cut.front (line ∷ []) ∙ ap (λ n. n + 1) cut.many;
}

pub no_longer : (bytes rest : List ℕ) (count : ℕ) → IsCutOff bytes rest count → length rest ≤ length bytes
no_longer bytes rest count cut = omega (arith, ap length cut.all, length-append (bytes_of_lines cut.front) rest)

cut_bytes : (bytes rest : List ℕ) (count : ℕ) → (cut : IsCutOff bytes rest count) → take (length bytes - length rest) bytes ≡ bytes_of_lines cut.front
cut_bytes bytes rest count cut =
    let long : length (bytes_of_lines cut.front) ≡ length bytes - length rest = omega (arith, ap length cut.all, length-append (bytes_of_lines cut.front) rest) in
    ap (take (length bytes - length rest)) cut.all ∙ take_at (bytes_of_lines cut.front) rest (length bytes - length rest) long

pub all_cut : (bytes rest : List ℕ) (count : ℕ) → IsCutOff bytes rest count → take (length bytes - length rest) bytes ≡ bytes_of_lines (take count (complete_lines bytes))
all_cut bytes rest count cut =
    cut_bytes bytes rest count cut ∙ ap bytes_of_lines (sym (ap (take count) cut.lines ∙ take_at cut.front (complete_lines rest) count cut.many))

pub few_cut : (bytes rest : List ℕ) (count most : ℕ) → IsCutOff bytes rest count → count ≤ most → complete_lines rest ≡ []
    → take (length bytes - length rest) bytes ≡ bytes_of_lines (take most (complete_lines bytes))
few_cut bytes rest count most cut few none =
    let front : complete_lines bytes ≡ cut.front = cut.lines ∙ ap (λ ls. cut.front ++ ls) none ∙ append-nil cut.front in
    cut_bytes bytes rest count cut ∙ ap bytes_of_lines (sym (ap (take most) front ∙ take_all most cut.front (omega (arith, few, cut.many))))
