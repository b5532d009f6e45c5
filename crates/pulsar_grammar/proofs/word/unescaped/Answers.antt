use Rattle.std.proofs.Common.{rules, tests, ◌≡◌, ◌==◌, ◌∷◌, ◌++◌, [], ◌∙◌, sym, ap, true, false, List, ℕ}
use Rattle.pulsar_grammar.specs.Words.{escaped, is_plain, unescaped, with_byte}
use Rattle.pulsar_grammar.proofs.Printed.{behind, escaped-byte, plain-byte}
use Rattle.pulsar_grammar.proofs.word.unescaped.Goals as goal

pub loop-b-preserved-then-b-eq37 : goal.loop-b-preserved-then-b-eq37
loop-b-preserved-then-b-eq37 c =
    let rest : c.loop-b.rest.now ≡ c.in-Some.b.now ∷ c.in-Some.after.now = search rules in
    let found : c.push.new.self.items ≡ c.loop-b.bytes.items ++ c.in-Some-escaped.byte ∷ [] = search rules in
    let is : (c.in-Some.b.now == 37) ≡ true = search (rules, tests) in
    let e : escaped c.in-Some.after.now ≡ with_byte c.in-Some-escaped.byte (unescaped c.in-Some-escaped.after.now) = search rules in
    let more = escaped-byte c.loop-b.bytes.items c.in-Some.b.now c.in-Some-escaped.byte c.in-Some.after.now c.in-Some-escaped.after.now is e in
    ap (λ (items : List ℕ). behind items (unescaped c.in-Some-escaped.after.now)) found ∙ more ∙ ap (λ (word : List ℕ). behind c.loop-b.bytes.items (unescaped word)) (sym rest) ∙ c.loop-b.invariant

pub loop-b-preserved : goal.loop-b-preserved
loop-b-preserved c =
    let rest : c.loop-b.rest.now ≡ c.in-Some.b.now ∷ c.in-Some.after.now = search rules in
    let found : c.push-then-is_plain.new.self.items ≡ c.loop-b.bytes.items ++ c.in-Some.b.now ∷ [] = search rules in
    let is : (c.in-Some.b.now == 37) ≡ false = search (rules, tests) in
    let plain : is_plain c.in-Some.b.now ≡ true = search (rules, tests) in
    let more = plain-byte c.loop-b.bytes.items c.in-Some.b.now c.in-Some.after.now is plain in
    ap (λ (items : List ℕ). behind items (unescaped c.in-Some.after.now)) found ∙ more ∙ ap (λ (word : List ℕ). behind c.loop-b.bytes.items (unescaped word)) (sym rest) ∙ c.loop-b.invariant
