use Rattle.std.proofs.Common.{◌≡◌, ◌++◌, ◌∙◌, ap, length, drop, arith, rules}
use Rattle.sf_c.proofs.filling.fill.Goals as goal

pub returns : goal.returns
returns g c =
    let same : c.buffer-1.given.0 ≡ c.put_all.new.out.buffer.now = search rules in
    record {
      same = ap length same ∙ (c.put_all.ensures.fills c.requires.0 c.requires.1).long;
      fills = λ t s fits.
          let all = c.put_all.ensures.fills t s in
          same ∙ all.puts (omega (arith, fits))
          ∙ ap (λ n. t ++ drop n c.args.buffer.now) (omega arith);
      counts = c.put_all.ensures.counts;
    }
