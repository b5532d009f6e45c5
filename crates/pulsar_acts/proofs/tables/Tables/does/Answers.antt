use Rattle.pulsar_acts.proofs.tables.Tables.does.Goals as goal

pub returns-in-Ask-clause-sees : goal.returns-in-Ask-clause-sees
returns-in-Ask-clause-sees c = rw c.in-Ask.is c.asks.ensures.sees

pub returns-in-Get-clause-sees : goal.returns-in-Get-clause-sees
returns-in-Get-clause-sees c = rw c.in-Get.is c.gets.ensures.sees

pub returns-in-StopAll-clause-sees : goal.returns-in-StopAll-clause-sees
returns-in-StopAll-clause-sees c = rw c.in-StopAll.is c.stops.ensures.sees

pub returns-in-OfTopic-clause-sees : goal.returns-in-OfTopic-clause-sees
returns-in-OfTopic-clause-sees c = rw c.in-OfTopic.is c.asks_topic.ensures.sees

pub returns-in-Number-clause-sees : goal.returns-in-Number-clause-sees
returns-in-Number-clause-sees c = rw c.in-Number.is c.numbers.ensures.sees

pub returns-in-Hold-clause-sees : goal.returns-in-Hold-clause-sees
returns-in-Hold-clause-sees c = rw c.in-Hold.is c.holds.ensures.sees

pub returns-in-Shut-clause-sees : goal.returns-in-Shut-clause-sees
returns-in-Shut-clause-sees c = rw c.in-Shut.is c.shuts.ensures.sees

pub returns-in-Tell-clause-sees : goal.returns-in-Tell-clause-sees
returns-in-Tell-clause-sees c = rw c.in-Tell.is c.tells.ensures.sees

pub returns-in-TellAll-clause-sees : goal.returns-in-TellAll-clause-sees
returns-in-TellAll-clause-sees c = rw c.in-TellAll.is c.tells_all.ensures.sees

pub returns-in-TakeNumber-clause-sees : goal.returns-in-TakeNumber-clause-sees
returns-in-TakeNumber-clause-sees c = rw c.in-TakeNumber.is c.takes_number.ensures.sees

pub returns-in-OfConsumer-clause-sees : goal.returns-in-OfConsumer-clause-sees
returns-in-OfConsumer-clause-sees c = rw c.in-OfConsumer.is c.asks_consumer.ensures.sees
