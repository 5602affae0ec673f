use Rattle.packet.specs.Courses.{course_of}
use Rattle.routing.proofs.Ordering.{written-leads}
use Rattle.routing.proofs.orders.head_to.Goals as goal

pub returns : goal.returns
returns g c =
    written-leads (g.W.Wiring.shape c.args.wiring.now) c.args.sender c.args.terminus (course_of c.in_ok-course.course) c.args.mode c.in_ok-route.route.bits
    c.in_ok-course.ensures c.in_ok-route.ensures.nine c.in_ok-route.ensures.back
