use Rattle.sip_build.proofs.Common.{◌≡◌, arith, codes, common_steps}
use Rattle.sip_build.proofs.TagLaws.{tag_done}
use Rattle.sip_build.proofs.tag.tag_of.Goals as goal

pub loop-i-preserved : goal.loop-i-preserved
loop-i-preserved c = grind (arith, common_steps)

pub returns : goal.returns
returns c =
    let end : c.loop-i.i ≡ 8 = omega (arith, c.loop-i-test.false, c.loop-i.auto) in
    tag_done (codes "fp") c.loop-i.tag c.args.digest.now c.loop-i.i end c.loop-i.invariant.size c.loop-i.invariant.so
