use Rattle.std.proofs.Common.{◌≡◌, true, false, eqb, length, refl, ap, rules, arith}
use Rattle.std.proofs.lemmas.Bool.{ne_eqb, eq-eqb}
use Rattle.script.proofs.words.IdFromStr.from_str.Goals as goal

pub returns-in_default : goal.returns-in_default
returns-in_default c =
    let n : length c.as_bytes.result.now ≡ length c.args.word.now = ap length c.as_bytes.ensures.value in
    let e : eqb (length c.args.word.now) 12 ≡ false = ne_eqb _ _ (λ h. omega arith) in
    rw e refl

pub returns-in_default-2 : goal.returns-in_default-2
returns-in_default-2 c =
    let n : length c.as_bytes.result.now ≡ length c.args.word.now = ap length c.as_bytes.ensures.value in
    let e : eqb (length c.args.word.now) 12 ≡ false = ne_eqb _ _ (λ h. omega arith) in
    rw e refl

pub returns : goal.returns
returns c =
    let n : length c.as_bytes.result.now ≡ length c.args.word.now = ap length c.as_bytes.ensures.value in
    let e : eqb (length c.args.word.now) 12 ≡ true = eq-eqb _ _ (omega arith) in
    rw e (search rules)
