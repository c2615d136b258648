use Rattle.std.proofs.Common.{arith, codes, refl}
use Rattle.std.proofs.lemmas.Slice.Eq.{text_from_reads}
use Rattle.sf_c.proofs.hop_scan.reason_number.Goals as goal

pub returns-in-bypass : goal.returns-in-bypass
returns-in-bypass c =
    let text = text_from_reads c.args.token.now (codes "bypass") (omega arith)
    (omega arith, (omega arith, (omega arith, (omega arith, (omega arith, (omega arith, tt)))))) in
    rw text refl

pub returns-in-method : goal.returns-in-method
returns-in-method c =
    let text = text_from_reads c.args.token.now (codes "method") (omega arith)
    (omega arith, (omega arith, (omega arith, (omega arith, (omega arith, (omega arith, tt)))))) in
    rw text refl

pub returns-in-request : goal.returns-in-request
returns-in-request c =
    let text = text_from_reads c.args.token.now (codes "request") (omega arith)
    (omega arith, (omega arith, (omega arith, (omega arith, (omega arith, (omega arith, (omega arith, tt))))))) in
    rw text refl

pub returns-in-partial : goal.returns-in-partial
returns-in-partial c =
    let text = text_from_reads c.args.token.now (codes "partial") (omega arith)
    (omega arith, (omega arith, (omega arith, (omega arith, (omega arith, (omega arith, (omega arith, tt))))))) in
    rw text refl

pub returns-in-117 : goal.returns-in-117
returns-in-117 c =
    let text = text_from_reads c.args.token.now (codes "uri-miss") (omega arith)
    (omega arith, (omega arith, (omega arith, (omega arith, (omega arith, (omega arith, (omega arith, (omega arith, tt)))))))) in
    rw text refl

pub returns-in-118 : goal.returns-in-118
returns-in-118 c =
    let text = text_from_reads c.args.token.now (codes "vary-miss") (omega arith)
    (omega arith, (omega arith, (omega arith, (omega arith, (omega arith, (omega arith, (omega arith, (omega arith, (omega arith, tt))))))))) in
    rw text refl
